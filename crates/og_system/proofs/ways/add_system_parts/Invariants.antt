use Rattle.std.proofs.Common.{map}
use Rattle.og_system.specs.Ways.{declared_in_system_part}
use Rattle.og_system.specs.WayTables.{directed_by, read_directed}
use Rattle.og_system.proofs.Along.{Listing}
use Rattle.og_system.proofs.ways.add_system_parts.Given as goal

abbrev pub invariant-loop-part : goal.invariant-loop-part
invariant-loop-part l =
    Listing (directed_by l.tables) (declared_in_system_part l.visible l.block) l.parts l.part-index (map read_directed l.signals.items) (map read_directed l.initial.signals.items)
