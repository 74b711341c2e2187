use Rattle.og_cload.specs.Names.{names_in}
use Rattle.og_csubset.specs.Loading.{functions_known}
use Rattle.og_cload.proofs.Known.{called_after}
use Rattle.og_names.proofs.Loops.{Left}
use Rattle.og_cload.proofs.labels.functions_known.Given as goal

abbrev pub invariant-loop-function : goal.invariant-loop-function
invariant-loop-function l = Left (λ ys. called_after (names_in l.names.items) ys) l.functions l.function-index (functions_known (names_in l.fn.names.items) l.functions)
