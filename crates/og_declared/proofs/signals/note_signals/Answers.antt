use Rattle.og_declared.specs.Spaces.{signals_of_unit}
use Rattle.og_declared.proofs.Spacing.{spacing_more}
use Rattle.og_declared.proofs.signals.note_signals.Goals as goal

pub loop-unit-preserved : goal.loop-unit-preserved
loop-unit-preserved c =
    spacing_more signals_of_unit c.args.units.now c.loop-unit.unit-index c.unit-item.result c.loop-unit.table _ _ c.loop-unit.first _ _
    c.loop-unit-test.true c.unit-item.is c.in_ok-note_signals_of_unit.ensures.table c.in_ok-note_signals_of_unit.ensures.first c.loop-unit.invariant
