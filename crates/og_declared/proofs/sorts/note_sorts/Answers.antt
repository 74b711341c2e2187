use Rattle.og_declared.specs.Tables.{unit_by}
use Rattle.og_system.proofs.Noticed.{noted_more}
use Rattle.og_declared.proofs.sorts.note_sorts.Goals as goal

pub loop-unit-preserved : goal.loop-unit-preserved
loop-unit-preserved c =
    noted_more (unit_by c.args.outside.now) c.args.units.now c.loop-unit.unit-index c.unit-item.result c.loop-unit.first c.note_unit.new.first c.args.first.now
    c.loop-unit-test.true c.unit-item.is c.in_ok-note_unit.ensures c.loop-unit.invariant
