-- Names of systems and blocks in tables, in which each name is found at once, and what is seen by them.
use Rattle.std.specs.Prelude.{ℕ, Bool, not, ◌||◌, List, [], ◌∷◌, flat_map, is_some}
use Rattle.og_base.specs.declared.Rule.TheVariants.{N1}
use Rattle.og_base.specs.declared.Violation.{Violation}
use Rattle.og_names.specs.Folding.{place_of, with_name}
use Rattle.og_ast.specs.declared.ground.Name.{Name}
use Rattle.og_ast.specs.declared.system.BlockTree.{BlockTree}
use Rattle.og_ast.specs.declared.system.SystemPart.{SystemPart}
use Rattle.og_ast.specs.declared.system.SystemPart.TheVariants as piece
use Rattle.og_ast.specs.declared.system.SystemTree.{SystemTree}
use Rattle.og_ast.specs.declared.system.Unit.{Unit as UnitTree}
use Rattle.og_ast.specs.declared.system.Unit.TheVariants as unit
use Rattle.og_system.specs.declared.tables.AroundTables.{AroundTables}
use Rattle.og_system.specs.declared.tables.BlockTables.{BlockTables}
use Rattle.og_system.specs.declared.tables.SystemTables.{SystemTables}
use Rattle.og_system.specs.Scopes.{key, is_among, is_outside, signals_in_block, routes_in_block, processes_in_block, names_in_block, signals_in_system, channels_in_system, blocks_in_system, names_in_system, processes_at_file_level, Seen, violated_if, in_channel}
use Rattle.og_system.specs.Bodies.{references, in_block_part}

-- whether a table has the name
abbrev pub is_in : List (List ℕ) → Name → Bool
is_in table name = is_some (place_of table (key name))

-- a table with further names
abbrev pub with_names : List (List ℕ) → List Name → List (List ℕ)
with_names table [] = table
with_names table (name ∷ names) = with_names (with_name table (key name)) names

abbrev pub around_tables : List UnitTree → List (List ℕ) → AroundTables
around_tables units types = record {
  types = types;
  bodies = with_names [] (processes_at_file_level units);
  references = with_names [] (references units);
}

abbrev pub system_tables : SystemTree → SystemTables
system_tables system = record {
  signals = with_names [] (signals_in_system system);
  channels = with_names [] (channels_in_system system);
  blocks = with_names [] (blocks_in_system system);
  any = with_names [] (names_in_system system);
}

abbrev pub block_tables : BlockTree → BlockTables
block_tables block = record {
  signals = with_names [] (signals_in_block block);
  routes = with_names [] (routes_in_block block);
  processes = with_names [] (processes_in_block block);
  any = with_names [] (names_in_block block);
}

-- what is seen in a system, by its tables
abbrev pub seen_by_system : AroundTables → SystemTables → Seen
seen_by_system around system = record {
  signal = is_in system.signals;
  channel = is_in system.channels;
  route = is_among [];
  block = is_in system.blocks;
  process = is_in around.bodies;
  body = is_in around.bodies;
  any = λ name. is_in system.any name || (is_in around.bodies name || is_outside around.types name);
}

-- what is seen in a block
abbrev pub seen_by_block : AroundTables → SystemTables → BlockTables → Seen
seen_by_block around system block = record {
  signal = λ name. is_in block.signals name || is_in system.signals name;
  channel = is_in system.channels;
  route = is_in block.routes;
  block = is_in system.blocks;
  process = λ name. is_in block.processes name || is_in around.bodies name;
  body = is_in around.bodies;
  any = λ name. is_in block.any name || (is_in system.any name || (is_in around.bodies name || is_outside around.types name));
}

-- ---- the violations of the rules, by tables

abbrev pub system_part_by : AroundTables → SystemTables → SystemPart → List Violation
system_part_by around system (piece.Use use') = []
system_part_by around system (piece.Signal signal) = []
system_part_by around system (piece.Channel channel) = in_channel (seen_by_system around system) channel
system_part_by around system (piece.Procedure procedure) = []
system_part_by around system (piece.Block block) = flat_map (in_block_part (seen_by_block around system (block_tables block))) block.parts

abbrev pub unit_by : AroundTables → UnitTree → List Violation
unit_by around (unit.Use use') = []
unit_by around (unit.System system) = flat_map (system_part_by around (system_tables system)) system.parts
unit_by around (unit.Process process) = violated_if (not (is_in around.references process.name)) N1 process.name
