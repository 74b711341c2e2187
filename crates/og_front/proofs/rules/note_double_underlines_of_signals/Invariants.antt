use Rattle.og_front.specs.Rules.{double_underlines_of}
use Rattle.og_front.proofs.Loops.{Noted}
use Rattle.og_front.proofs.rules.note_double_underlines_of_signals.Given as goal

abbrev pub invariant-loop-signal : goal.invariant-loop-signal
invariant-loop-signal l = Noted double_underlines_of l.signals l.signal-index l.first l.initial.first
