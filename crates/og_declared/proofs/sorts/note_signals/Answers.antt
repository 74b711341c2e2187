use Rattle.og_declared.specs.Sorts.{in_signal}
use Rattle.og_declared.specs.Tables.{is_other}
use Rattle.og_system.proofs.Noticed.{noted_more}
use Rattle.og_declared.proofs.sorts.note_signals.Goals as goal

pub loop-signal-preserved : goal.loop-signal-preserved
loop-signal-preserved c =
    noted_more (in_signal c.args.outside.now.types (is_other c.args.outside.now c.args.system.now c.args.block.now)) c.args.signals.now c.loop-signal.signal-index c.signal-item.result c.loop-signal.first c.note_signal.new.first c.args.first.now
    c.loop-signal-test.true c.signal-item.is c.in_ok-note_signal.ensures c.loop-signal.invariant
