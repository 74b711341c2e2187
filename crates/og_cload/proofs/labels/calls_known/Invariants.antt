use Rattle.std.specs.List.{list_all}
use Rattle.og_cload.specs.Names.{names_in}
use Rattle.og_csubset.specs.Loading.{calls_known}
use Rattle.og_names.proofs.Loops.{Left}
use Rattle.og_cload.proofs.labels.calls_known.Given as goal

abbrev pub invariant-loop-statement : goal.invariant-loop-statement
invariant-loop-statement l = Left (λ ys. list_all (calls_known (names_in l.names)) ys) l.body l.statement-index (list_all (calls_known (names_in l.names)) l.body)
