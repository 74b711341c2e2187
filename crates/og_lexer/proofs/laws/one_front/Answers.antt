use Rattle.og_lexer.proofs.Languages.{front_in-stands}
use Rattle.og_lexer.proofs.laws.one_front.Goals as goal

pub returns : goal.returns
returns c = front_in-stands
