use Rattle.std.specs.List.{list_any}
use Rattle.og_ir.specs.Arithmetic.{is_same}
use Rattle.og_csubset.specs.declared.CCase.{CCase}
use Rattle.og_names.proofs.Loops.{Left}
use Rattle.og_cload.proofs.labels.is_value.Given as goal

abbrev pub invariant-loop-case : goal.invariant-loop-case
invariant-loop-case l = Left (λ ys. list_any (λ (c : CCase). is_same l.value c.value) ys) l.cases l.case-index (list_any (λ (c : CCase). is_same l.value c.value) l.cases)
