use Rattle.std.specs.List.{list_all}
use Rattle.og_csubset.specs.Loading.{has_labels}
use Rattle.og_names.proofs.Loops.{Left}
use Rattle.og_cload.proofs.labels.breaks_k6.Given as goal

abbrev pub invariant-loop-function : goal.invariant-loop-function
invariant-loop-function l = Left (λ ys. list_all has_labels ys) l.function-items l.function-index (list_all has_labels l.program.functions)
