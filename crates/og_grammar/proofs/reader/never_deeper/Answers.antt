use Rattle.og_grammar.proofs.Limits.{never_deeper}
use Rattle.og_grammar.proofs.reader.never_deeper.Goals as goal

pub returns : goal.returns
returns c = never_deeper
