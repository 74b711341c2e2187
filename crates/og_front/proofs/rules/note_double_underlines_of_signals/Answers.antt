use Rattle.og_front.specs.Rules.{double_underlines_of}
use Rattle.og_front.proofs.Loops.{noted_more}
use Rattle.og_front.proofs.rules.note_double_underlines_of_signals.Goals as goal

pub loop-signal-preserved : goal.loop-signal-preserved
loop-signal-preserved c =
    noted_more double_underlines_of c.args.signals.now c.loop-signal.signal-index c.signal-item.result c.loop-signal.first c.note_double_underlines_of.new.first c.args.first.now
    c.loop-signal-test.true c.signal-item.is c.note_double_underlines_of.ensures c.loop-signal.invariant
