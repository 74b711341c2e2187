use Rattle.std.proofs.Common.{map}
use Rattle.og_system.specs.WayTables.{directed_by, read_directed}
use Rattle.og_system.proofs.Along.{ListingEach}
use Rattle.og_system.proofs.ways.add_signals.Given as goal

abbrev pub invariant-loop-tree : goal.invariant-loop-tree
invariant-loop-tree l =
    ListingEach (directed_by l.tables) l.visible l.trees l.tree-index (map read_directed l.signals.items) (map read_directed l.initial.signals.items)
