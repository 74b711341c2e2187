use Rattle.std.proofs.Common.{◌++◌}
use Rattle.og_cload.specs.Names.{names_in}
use Rattle.og_csubset.specs.Loading.{labels_of}
use Rattle.og_names.proofs.Loops.{Left}
use Rattle.og_cload.proofs.labels.labels_of.Given as goal

abbrev pub invariant-loop-statement : goal.invariant-loop-statement
invariant-loop-statement l = Left (λ ys. names_in l.labels.items ++ labels_of ys) l.body l.statement-index (labels_of l.body)
