use Rattle.og_csubset.proofs.Lexing.{HasTokens-unique}
use Rattle.og_csubset.proofs.spelling_laws.one_list_of_tokens.Goals as goal

pub returns : goal.returns
returns c = HasTokens-unique
