use Rattle.og_system.specs.Bodies.{references_of_unit}
use Rattle.og_system.proofs.Adding.{adding_more}
use Rattle.og_system.proofs.declared.add_references.Goals as goal

pub loop-unit-preserved : goal.loop-unit-preserved
loop-unit-preserved c =
    adding_more references_of_unit c.args.units.now c.loop-unit.unit-index c.unit-item.result c.loop-unit.table c.add_references_of_unit.new.table c.args.table.now
    c.loop-unit-test.true c.unit-item.is c.in_ok-add_references_of_unit.ensures c.loop-unit.invariant
