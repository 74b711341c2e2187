use Rattle.og_system.specs.Scopes.{name_of_signal}
use Rattle.og_system.proofs.Adding.{Naming}
use Rattle.og_declared.proofs.tables.add_signals.Given as goal

abbrev pub invariant-loop-signal : goal.invariant-loop-signal
invariant-loop-signal l = Naming name_of_signal l.signals l.signal-index l.table l.initial.table
