use Rattle.std.proofs.Common.{◌-◌}
use Rattle.og_reading.specs.Reading.{rest_of, pushed, more_of}
use Rattle.og_reading.proofs.Turns.{SoFar}
use Rattle.og_reading.proofs.many.more_of.Given as goal

abbrev pub invariant-loop : goal.invariant-loop
invariant-loop g l =
    SoFar (pushed (g.P.Production.at l.fuel)) l.trees (l.end - l.counter) (rest_of l.left) (more_of (g.P.Production.at l.fuel) l.fn.first (rest_of l.from))
