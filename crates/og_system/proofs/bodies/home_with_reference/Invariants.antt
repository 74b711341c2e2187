use Rattle.std.specs.List.{filter}
use Rattle.og_system.specs.Bodies.{homes_of_unit, refers}
use Rattle.og_system.proofs.Foremost.{Searching}
use Rattle.og_system.proofs.bodies.home_with_reference.Given as goal

abbrev pub invariant-loop-unit : goal.invariant-loop-unit
invariant-loop-unit l = Searching (λ unit. filter (refers l.process) (homes_of_unit unit)) l.units l.unit-index
