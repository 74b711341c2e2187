use Rattle.og_declared.specs.Sorts.{in_signal}
use Rattle.og_declared.specs.Tables.{is_other}
use Rattle.og_system.proofs.Noticed.{Noted}
use Rattle.og_declared.proofs.sorts.note_signals.Given as goal

abbrev pub invariant-loop-signal : goal.invariant-loop-signal
invariant-loop-signal l = Noted (in_signal l.outside.types (is_other l.outside l.system l.block)) l.signals l.signal-index l.first l.initial.first
