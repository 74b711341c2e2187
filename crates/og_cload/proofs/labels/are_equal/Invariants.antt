use Rattle.og_csubset.specs.Loading.{has_equal_cases}
use Rattle.og_names.proofs.Loops.{Left}
use Rattle.og_cload.proofs.labels.are_equal.Given as goal

abbrev pub invariant-loop-place : goal.invariant-loop-place
invariant-loop-place l = Left has_equal_cases l.cases l.place (has_equal_cases l.cases)
