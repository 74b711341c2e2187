use Rattle.og_system.specs.Bodies.{bodies_of_unit}
use Rattle.og_system.proofs.Counted.{counting_more}
use Rattle.og_system.proofs.counting.count_units.Goals as goal

pub loop-unit-preserved : goal.loop-unit-preserved
loop-unit-preserved c =
    counting_more bodies_of_unit c.args.units.now c.loop-unit.unit-index c.unit-item.result c.loop-unit.count c.count_unit.new.count c.args.count.now
    c.loop-unit-test.true c.unit-item.is (cc) c.loop-unit.invariant
