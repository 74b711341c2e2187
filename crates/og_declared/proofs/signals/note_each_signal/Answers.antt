use Rattle.og_declared.proofs.Spacing.{each_more}
use Rattle.og_declared.proofs.signals.note_each_signal.Goals as goal

pub loop-signal-preserved : goal.loop-signal-preserved
loop-signal-preserved c =
    each_more c.args.signals.now c.loop-signal.signal-index c.signal-item.result c.loop-signal.table _ _ c.loop-signal.first _ _
    c.loop-signal-test.true c.signal-item.is c.in_ok-note_declared.ensures.table c.in_ok-note_declared.ensures.first c.loop-signal.invariant
