use Rattle.std.proofs.Common.{◌≡◌, map, take}
use Rattle.og_system.specs.WayTables.{read_directed}
use Rattle.og_outline.specs.Outlines.{signal_of}
use Rattle.og_outline.proofs.signals.outlined.Given as goal

abbrev pub invariant-loop-signal : goal.invariant-loop-signal
invariant-loop-signal l = l.signals ≡ map signal_of (map read_directed (take l.signal-index l.directed))
