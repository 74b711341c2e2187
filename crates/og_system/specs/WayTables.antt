-- What the ways of the process carry, in tables.
use Rattle.std.specs.Prelude.{Bool, true, false, ◌||◌, List, [], ◌∷◌, Option, Some, None}
use Rattle.og_ast.specs.declared.ground.Name.{Name}
use Rattle.og_ast.specs.declared.system.PathTree.{PathTree}
use Rattle.og_system.specs.declared.ways as code
use Rattle.og_system.specs.Tables.{is_in, with_names}
use Rattle.og_system.specs.Ways.{Ways, Declaration, Directed, carried_to, carried_from}

abbrev pub nothing_carried : Bool → code.WayTables.WayTables
nothing_carried both = record { both = both; incoming = []; outgoing = [] }

-- with what one more path carries to the name and from it
abbrev pub with_path : Name → code.WayTables.WayTables → PathTree → code.WayTables.WayTables
with_path name tables path = record {
  both = tables.both;
  incoming = with_names tables.incoming (carried_to name path);
  outgoing = with_names tables.outgoing (carried_from name path);
}

abbrev pub with_paths : Name → code.WayTables.WayTables → List PathTree → code.WayTables.WayTables
with_paths name tables [] = tables
with_paths name tables (path ∷ paths) = with_paths name (with_path name tables path) paths

abbrev pub way_tables : Option Ways → code.WayTables.WayTables
way_tables None = nothing_carried true
way_tables (Some w) = with_paths w.name (nothing_carried false) w.paths

abbrev pub directed_by : code.WayTables.WayTables → Declaration → Directed
directed_by tables d = record {
  signal = d.signal;
  visible = d.visible;
  incoming = tables.both || is_in tables.incoming d.signal.name;
  outgoing = tables.both || is_in tables.outgoing d.signal.name;
}

-- a signal that is lent from its tree
abbrev pub read_directed : code.DirectedSignal.DirectedSignal → Directed
read_directed d = record { signal = d.signal.now; visible = d.visible; incoming = d.incoming; outgoing = d.outgoing }
