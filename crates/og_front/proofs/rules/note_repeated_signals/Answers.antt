use Rattle.og_front.proofs.Additions.{repeated_more}
use Rattle.og_front.proofs.rules.note_repeated_signals.Goals as goal

pub loop-signal-preserved : goal.loop-signal-preserved
loop-signal-preserved c =
    repeated_more c.loop-signal.table _ c.loop-signal.first _ c.args.signals.now c.loop-signal.signal-index c.signal-item.result _
    c.loop-signal-test.true c.signal-item.is c.in_ok-note_repeated_in.ensures.table c.in_ok-note_repeated_in.ensures.first c.loop-signal.invariant
