use Rattle.std.proofs.Common.{map}
use Rattle.og_system.specs.Ways.{declared_in_unit}
use Rattle.og_system.specs.WayTables.{directed_by, read_directed}
use Rattle.og_system.proofs.Along.{Listing}
use Rattle.og_system.proofs.ways.add_units.Given as goal

abbrev pub invariant-loop-unit : goal.invariant-loop-unit
invariant-loop-unit l =
    Listing (directed_by l.tables) (declared_in_unit l.system l.block) l.units l.unit-index (map read_directed l.signals.items) (map read_directed l.initial.signals.items)
