use Rattle.og_system.specs.Bodies.{bodies_of_unit}
use Rattle.og_system.proofs.Counted.{Counting}
use Rattle.og_system.proofs.counting.count_units.Given as goal

abbrev pub invariant-loop-unit : goal.invariant-loop-unit
invariant-loop-unit l = Counting bodies_of_unit l.units l.unit-index l.count l.initial.count
