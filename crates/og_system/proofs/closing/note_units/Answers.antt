use Rattle.og_system.specs.Closing.{in_unit}
use Rattle.og_system.proofs.Noticed.{noted_more}
use Rattle.og_system.proofs.closing.note_units.Goals as goal

pub loop-unit-preserved : goal.loop-unit-preserved
loop-unit-preserved c =
    noted_more in_unit c.args.units.now c.loop-unit.unit-index c.unit-item.result c.loop-unit.first c.note_unit.new.first c.args.first.now
    c.loop-unit-test.true c.unit-item.is (cc) c.loop-unit.invariant
