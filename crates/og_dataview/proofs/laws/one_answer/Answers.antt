use Rattle.std.proofs.Common.{inl, inr}
use Rattle.og_dataview.specs.Violations.{violations}
use Rattle.og_dataview.proofs.OneAnswer.{one_answer}
use Rattle.og_dataview.proofs.laws.one_answer.Goals as goal

pub returns : goal.returns
returns c = λ modules. elim (one_answer (violations modules)) [ inl none ↦ inl none | inr first ↦ inr (first.0, (first.1, first.2)) ]
