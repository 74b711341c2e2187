-- The same violations where names are looked for in tables, in which each name is found at once.
use Rattle.std.specs.Prelude.{ℕ, Bool, ◌||◌, List, [], ◌∷◌, ◌++◌, flat_map}
use Rattle.std.specs.List.{list_any}
use Rattle.std.specs.Str.{bytes_eq}
use Rattle.og_base.specs.declared.Rule.TheVariants.{N2, N4}
use Rattle.og_base.specs.declared.Violation.{Violation}
use Rattle.og_names.specs.Folding.{with_name}
use Rattle.og_ast.specs.declared.ground.Name.{Name}
use Rattle.og_ast.specs.declared.system.BlockPart.{BlockPart}
use Rattle.og_ast.specs.declared.system.SystemPart.{SystemPart}
use Rattle.og_ast.specs.declared.system.SystemPart.TheVariants as piece
use Rattle.og_ast.specs.declared.system.Unit.{Unit as UnitTree}
use Rattle.og_ast.specs.declared.system.Unit.TheVariants as unit
use Rattle.og_system.specs.Scopes.{key, built_in, routes_of_block_part, processes_of_block_part, channels_of_system_part, blocks_of_system_part, procedures_of_system_part, names_in_block, names_in_system, processes_at_file_level, violated_if}
use Rattle.og_system.specs.Tables.{is_in, with_names}
use Rattle.og_declared.specs.declared.visible.Outside.{Outside}
use Rattle.og_declared.specs.declared.spaces.BlockSpace.{BlockSpace}
use Rattle.og_declared.specs.declared.spaces.BlockSpace.TheVariants as inner
use Rattle.og_declared.specs.declared.spaces.SystemSpace.{SystemSpace}
use Rattle.og_declared.specs.declared.spaces.SystemSpace.TheVariants as outer
use Rattle.og_declared.specs.Spaces.{has_two_underscores, in_space, spaces_of_part}
use Rattle.og_declared.specs.Sorts.{has, in_signal, in_block_part}

-- ---- spaces

-- where the names before it are in the table
abbrev pub declared_by : List (List ℕ) → Name → List Violation
declared_by table name = violated_if (is_in table name) N2 name ++ violated_if (has_two_underscores name.word.bytes) N4 name

abbrev pub each_declared_by : List (List ℕ) → List Name → List Violation
each_declared_by table [] = []
each_declared_by table (name ∷ names) = declared_by table name ++ each_declared_by (with_name table (key name)) names

abbrev pub named_in_system : SystemSpace → SystemPart → List Name
named_in_system outer.Channels part = channels_of_system_part part
named_in_system outer.Blocks part = blocks_of_system_part part
named_in_system outer.Procedures part = procedures_of_system_part part

abbrev pub named_in_block : BlockSpace → BlockPart → List Name
named_in_block inner.Routes part = routes_of_block_part part
named_in_block inner.Processes part = processes_of_block_part part

-- in all spaces of the blocks
abbrev pub in_spaces_of_part : SystemPart → List Violation
in_spaces_of_part part = flat_map in_space (spaces_of_part part)

-- ---- types of parameters

abbrev pub outside_tables : List (List ℕ) → List (List ℕ) → List UnitTree → Outside
outside_tables types constants units = record { types = types; others = with_names constants (processes_at_file_level units) }

-- by the tables of the names around, of a system, and of a block
abbrev pub is_other : Outside → List (List ℕ) → List (List ℕ) → List ℕ → Bool
is_other outside system block name = has block name || (has system name || (has outside.others name || list_any (bytes_eq name) built_in))

abbrev pub part_by : Outside → List (List ℕ) → SystemPart → List Violation
part_by outside system (piece.Use use') = []
part_by outside system (piece.Signal signal) = flat_map (in_signal outside.types (is_other outside system [])) signal.signals
part_by outside system (piece.Channel channel) = []
part_by outside system (piece.Procedure procedure) = []
part_by outside system (piece.Block block) = flat_map (in_block_part outside.types (is_other outside system (with_names [] (names_in_block block)))) block.parts

abbrev pub unit_by : Outside → UnitTree → List Violation
unit_by outside (unit.Use use') = []
unit_by outside (unit.System system) = flat_map (part_by outside (with_names [] (names_in_system system))) system.parts
unit_by outside (unit.Process process) = []
