use Rattle.og_declared.proofs.Spacing.{SpacingEach}
use Rattle.og_declared.proofs.signals.note_each_signal.Given as goal

abbrev pub invariant-loop-signal : goal.invariant-loop-signal
invariant-loop-signal l = SpacingEach l.signals l.signal-index l.table l.initial.table l.first l.initial.first
