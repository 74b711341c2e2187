use Rattle.og_system.specs.Bodies.{bodies_of_unit}
use Rattle.og_system.proofs.Foremost.{Searching}
use Rattle.og_system.proofs.bodies.process_of.Given as goal

abbrev pub invariant-loop-unit : goal.invariant-loop-unit
invariant-loop-unit l = Searching bodies_of_unit l.units l.unit-index
