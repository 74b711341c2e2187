use Rattle.std.proofs.Common.{◌++◌}
use Rattle.og_flatten.specs.FlatCode.{bodies_at}
use Rattle.og_names.proofs.Loops.{Left}
use Rattle.og_flatten.proofs.transition.put_bodies.Given as goal

abbrev pub invariant-loop-body : goal.invariant-loop-body
invariant-loop-body l =
    Left (λ ys. l.code ++ bodies_at l.entering l.end ys) l.bodies l.body-index (l.initial.code ++ bodies_at l.entering l.end l.bodies)
