use Rattle.og_system.specs.Scopes.{processes_of_unit}
use Rattle.og_declared.proofs.Spacing.{spacing_more}
use Rattle.og_declared.proofs.spaces.note_bodies.Goals as goal

pub loop-unit-preserved : goal.loop-unit-preserved
loop-unit-preserved c =
    spacing_more processes_of_unit c.args.units.now c.loop-unit.unit-index c.unit-item.result c.loop-unit.table _ _ c.loop-unit.first _ _
    c.loop-unit-test.true c.unit-item.is c.in_ok-note_body.ensures.table c.in_ok-note_body.ensures.first c.loop-unit.invariant
