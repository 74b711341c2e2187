use Rattle.std.proofs.Common.{refl}
use Rattle.og_lexer.specs.Bytes.{class_of}
use Rattle.og_lexer.specs.AsnBytes.{asn_mark_class}
use Rattle.og_lexer.specs.AsnKeywords.{asn_keyword_text}
use Rattle.og_lexer.specs.AsnFront.{asn_front_of}
use Rattle.og_lexer.proofs.laws.asn_examples.Goals as goal

pub returns-clause-bytes : goal.returns-clause-bytes
unfolding class_of asn_mark_class
returns-clause-bytes c = refl

pub returns-clause-fronts : goal.returns-clause-fronts
unfolding class_of asn_mark_class asn_keyword_text asn_front_of
returns-clause-fronts c = (refl, refl, refl, refl, refl, refl, refl, refl, refl, refl, refl)

pub returns-clause-texts : goal.returns-clause-texts
unfolding class_of asn_mark_class asn_front_of
returns-clause-texts c = (refl, refl, refl, refl, refl, refl)

pub returns-clause-marks : goal.returns-clause-marks
unfolding class_of asn_mark_class asn_front_of
returns-clause-marks c = (refl, refl, refl, refl, refl, refl, refl, refl, refl)

pub returns-clause-comments : goal.returns-clause-comments
unfolding class_of asn_mark_class asn_front_of
returns-clause-comments c = (refl, refl, refl, refl, refl, refl)

pub returns-clause-violations : goal.returns-clause-violations
unfolding class_of asn_mark_class asn_keyword_text asn_front_of
returns-clause-violations c = (refl, refl, refl, refl, refl, refl, refl, refl, refl)
