use Rattle.og_front.proofs.Additions.{named_more}
use Rattle.og_front.proofs.rules.signal_table.Goals as goal

pub loop-signal-preserved : goal.loop-signal-preserved
loop-signal-preserved c =
    named_more c.loop-signal.table _ c.args.signals.now c.loop-signal.signal-index c.signal-item.result _ c.loop-signal-test.true c.signal-item.is c.in_ok-add_declared.ensures c.loop-signal.invariant
