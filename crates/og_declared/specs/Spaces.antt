-- Names that systems and blocks declare (after Z.101 clause 6.3), space by space: of a system its channels, its blocks and its
-- procedures, of a block its routes and its bodies of processes, the bodies at file level, and the signals of all systems and blocks,
-- which are one space here, where Z.101 lets each scope have its own. A name of a space violates N2 where one that stands before it in
-- the space is compared as equal, and N4 where two underscores stand side by side in it. A reference declares nothing, and the name of
-- a system is in no space. What stands inside processes and procedures, timers among it, is not looked at here.
use Rattle.std.specs.Prelude.{ℕ, Bool, false, ◌&&◌, ◌||◌, ◌==◌, List, [], ◌∷◌, ◌++◌, map, flat_map}
use Rattle.og_base.specs.declared.Rule.TheVariants.{N2, N4}
use Rattle.og_base.specs.declared.Violation.{Violation}
use Rattle.og_ast.specs.declared.ground.Name.{Name}
use Rattle.og_ast.specs.declared.system.BlockTree.{BlockTree}
use Rattle.og_ast.specs.declared.system.SystemPart.{SystemPart}
use Rattle.og_ast.specs.declared.system.SystemPart.TheVariants as piece
use Rattle.og_ast.specs.declared.system.SystemTree.{SystemTree}
use Rattle.og_ast.specs.declared.system.Unit.{Unit as UnitTree}
use Rattle.og_ast.specs.declared.system.Unit.TheVariants as unit
use Rattle.og_system.specs.Scopes.{name_of_signal, is_among, signals_in_block, routes_in_block, processes_in_block, channels_in_system, blocks_in_system, procedures_of_system_part, processes_at_file_level, violated_if}

-- ---- spaces

abbrev pub signals_of_part : SystemPart → List Name
signals_of_part (piece.Use use') = []
signals_of_part (piece.Signal signal) = map name_of_signal signal.signals
signals_of_part (piece.Channel channel) = []
signals_of_part (piece.Procedure procedure) = []
signals_of_part (piece.Block block) = signals_in_block block

abbrev pub signals_of_unit : UnitTree → List Name
signals_of_unit (unit.Use use') = []
signals_of_unit (unit.System system) = flat_map signals_of_part system.parts
signals_of_unit (unit.Process process) = []

-- the signals of all systems and blocks, in the order of the text
abbrev pub signals_in : List UnitTree → List Name
signals_in units = flat_map signals_of_unit units

abbrev pub procedures_in_system : SystemTree → List Name
procedures_in_system system = flat_map procedures_of_system_part system.parts

abbrev pub spaces_in_block : BlockTree → List (List Name)
spaces_in_block block = routes_in_block block ∷ processes_in_block block ∷ []

abbrev pub spaces_of_part : SystemPart → List (List Name)
spaces_of_part (piece.Use use') = []
spaces_of_part (piece.Signal signal) = []
spaces_of_part (piece.Channel channel) = []
spaces_of_part (piece.Procedure procedure) = []
spaces_of_part (piece.Block block) = spaces_in_block block

abbrev pub spaces_in_system : SystemTree → List (List Name)
spaces_in_system system = channels_in_system system ∷ blocks_in_system system ∷ procedures_in_system system ∷ flat_map spaces_of_part system.parts

abbrev pub spaces_of_unit : UnitTree → List (List Name)
spaces_of_unit (unit.Use use') = []
spaces_of_unit (unit.System system) = spaces_in_system system
spaces_of_unit (unit.Process process) = []

-- the names of each space
abbrev pub spaces : List UnitTree → List (List Name)
spaces units = signals_in units ∷ processes_at_file_level units ∷ flat_map spaces_of_unit units

-- ---- the rules

-- 95 is the underscore
abbrev pub begins_with_underscore : List ℕ → Bool
begins_with_underscore [] = false
begins_with_underscore (b ∷ bs) = b == 95

abbrev pub has_two_underscores : List ℕ → Bool
has_two_underscores [] = false
has_two_underscores (b ∷ bs) = ((b == 95) && begins_with_underscore bs) || has_two_underscores bs

-- N2: one of the names before it is equal. N4: two underscores stand side by side in it
abbrev pub declared_after : List Name → Name → List Violation
declared_after earlier name = violated_if (is_among earlier name) N2 name ++ violated_if (has_two_underscores name.word.bytes) N4 name

abbrev pub each_declared_after : List Name → List Name → List Violation
each_declared_after earlier [] = []
each_declared_after earlier (name ∷ names) = declared_after earlier name ++ each_declared_after (earlier ++ name ∷ []) names

-- in the names of one space
abbrev pub in_space : List Name → List Violation
in_space names = each_declared_after [] names
