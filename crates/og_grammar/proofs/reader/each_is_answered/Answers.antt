use Rattle.og_grammar.proofs.Each.{each_is_answered}
use Rattle.og_grammar.proofs.reader.each_is_answered.Goals as goal

pub returns : goal.returns
returns c = each_is_answered
