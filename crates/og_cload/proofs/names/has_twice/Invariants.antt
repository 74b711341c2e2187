use Rattle.og_csubset.specs.Loading.{has_twice}
use Rattle.og_cload.specs.Names.{names_in}
use Rattle.og_names.proofs.Loops.{Left}
use Rattle.og_cload.proofs.names.has_twice.Given as goal

abbrev pub invariant-loop-place : goal.invariant-loop-place
invariant-loop-place l = Left (λ ys. has_twice (names_in ys)) l.names l.place (has_twice (names_in l.names))
