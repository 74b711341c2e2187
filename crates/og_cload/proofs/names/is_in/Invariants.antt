use Rattle.og_csubset.specs.Kinds.{is_in}
use Rattle.og_cload.specs.Names.{names_in}
use Rattle.og_names.proofs.Loops.{Left}
use Rattle.og_cload.proofs.names.is_in.Given as goal

abbrev pub invariant-loop-other : goal.invariant-loop-other
invariant-loop-other l = Left (λ ys. is_in l.name (names_in ys)) l.names l.other-index (is_in l.name (names_in l.names))
