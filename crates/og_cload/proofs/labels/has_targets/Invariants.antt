use Rattle.std.specs.List.{list_all}
use Rattle.og_cload.specs.Names.{names_in}
use Rattle.og_csubset.specs.Kinds.{is_in}
use Rattle.og_csubset.specs.Loading.{targets_of}
use Rattle.og_names.proofs.Loops.{Left}
use Rattle.og_cload.proofs.labels.has_targets.Given as goal

abbrev pub invariant-loop-statement : goal.invariant-loop-statement
invariant-loop-statement l = Left (λ ys. list_all (λ s. list_all (λ label. is_in label (names_in l.labels)) (targets_of s)) ys) l.body l.statement-index (list_all (λ s. list_all (λ label. is_in label (names_in l.labels)) (targets_of s)) l.body)
