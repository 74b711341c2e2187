use Rattle.std.proofs.Common.{◌≡◌, ◌++◌, map, take}
use Rattle.og_front.specs.ModelOf.{signal_of}
use Rattle.og_front.proofs.build.push_signals.Given as goal

abbrev pub invariant-loop-name : goal.invariant-loop-name
invariant-loop-name l = l.signals ≡ l.initial.signals ++ map (signal_of l.names) (take l.name-index l.more)
