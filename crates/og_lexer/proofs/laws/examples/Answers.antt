use Rattle.std.proofs.Common.{refl}
use Rattle.og_lexer.specs.Bytes.{class_of}
use Rattle.og_lexer.specs.Keywords.{keyword_text}
use Rattle.og_lexer.specs.Front.{front_of}
use Rattle.og_lexer.proofs.laws.examples.Goals as goal

pub returns-clause-fronts : goal.returns-clause-fronts
unfolding class_of keyword_text front_of
returns-clause-fronts c = (refl, refl, refl, refl, refl, refl, refl, refl, refl, refl, refl, refl, refl, refl)

pub returns-clause-violations : goal.returns-clause-violations
unfolding class_of front_of
returns-clause-violations c = (refl, refl, refl, refl)
