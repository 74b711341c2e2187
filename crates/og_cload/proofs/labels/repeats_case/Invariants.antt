use Rattle.std.specs.List.{list_any}
use Rattle.og_csubset.specs.Loading.{repeats_case}
use Rattle.og_names.proofs.Loops.{Left}
use Rattle.og_cload.proofs.labels.repeats_case.Given as goal

abbrev pub invariant-loop-statement : goal.invariant-loop-statement
invariant-loop-statement l = Left (λ ys. list_any repeats_case ys) l.body l.statement-index (list_any repeats_case l.body)
