use Rattle.std.proofs.Common.{◌+◌}
use Rattle.og_flatten.specs.FlatCode.{length_of_bodies}
use Rattle.og_names.proofs.Loops.{Left}
use Rattle.og_flatten.proofs.transition.entering_place.Given as goal

abbrev pub invariant-loop-body : goal.invariant-loop-body
invariant-loop-body l = Left (λ ys. l.place + length_of_bodies ys) l.bodies l.body-index (1 + length_of_bodies l.bodies)
