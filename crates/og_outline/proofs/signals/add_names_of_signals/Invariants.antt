use Rattle.std.proofs.Common.{◌≡◌, ◌++◌, map, take}
use Rattle.og_system.specs.Scopes.{name_of_signal}
use Rattle.og_outline.proofs.signals.add_names_of_signals.Given as goal

abbrev pub invariant-loop-signal : goal.invariant-loop-signal
invariant-loop-signal l = l.names ≡ l.initial.names ++ map name_of_signal (take l.signal-index l.signals)
