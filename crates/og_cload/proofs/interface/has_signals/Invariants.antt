use Rattle.std.specs.List.{list_all}
use Rattle.og_cload.specs.Names.{names_in}
use Rattle.og_csubset.specs.Kinds.{is_in}
use Rattle.og_csubset.specs.Interface.{incoming_from, signal_function}
use Rattle.og_names.proofs.Loops.{Left}
use Rattle.og_cload.proofs.interface.has_signals.Given as goal

abbrev pub invariant-loop-signal : goal.invariant-loop-signal
invariant-loop-signal l = Left (λ ys. list_all (λ k. is_in (signal_function l.model k) (names_in l.names)) (incoming_from l.signal ys)) l.signals l.signal (list_all (λ k. is_in (signal_function l.model k) (names_in l.names)) (incoming_from 0 l.signals))
