use Rattle.og_declared.specs.Spaces.{signals_of_part}
use Rattle.og_declared.proofs.Spacing.{spacing_more}
use Rattle.og_declared.proofs.signals.note_signals_of_parts.Goals as goal

pub loop-part-preserved : goal.loop-part-preserved
loop-part-preserved c =
    spacing_more signals_of_part c.args.parts.now c.loop-part.part-index c.part-item.result c.loop-part.table _ _ c.loop-part.first _ _
    c.loop-part-test.true c.part-item.is c.in_ok-note_signals_of_part.ensures.table c.in_ok-note_signals_of_part.ensures.first c.loop-part.invariant
