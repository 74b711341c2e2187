use Rattle.og_lexer.proofs.Placing.{front_lexes-pieces}
use Rattle.og_lexer.proofs.laws.front_lexes.Goals as goal

pub returns : goal.returns
returns c = λ language file bytes v first. front_lexes-pieces language file first.before bytes first.rest first.cuts
