-- Names that are looked at, and the signals with the names of their types.
use Rattle.std.proofs.Common.{List, [], ◌∷◌, ◌++◌}
use Rattle.std.specs.List.{flat_map}
use Rattle.og_ast.specs.declared.ground.HyphenedName.{HyphenedName}
use Rattle.og_ast.specs.declared.ground.Name.{Name}
use Rattle.og_ast.specs.declared.system.BlockPart.{BlockPart}
use Rattle.og_ast.specs.declared.system.BlockPart.TheVariants as member
use Rattle.og_ast.specs.declared.system.SigTree.{SigTree}
use Rattle.og_ast.specs.declared.system.SystemPart.{SystemPart}
use Rattle.og_ast.specs.declared.system.SystemPart.TheVariants as piece
use Rattle.og_ast.specs.declared.system.Unit.{Unit as UnitTree}
use Rattle.og_ast.specs.declared.system.Unit.TheVariants as unit
use Rattle.og_declared.specs.Spaces.{spaces}

abbrev pub names_in_sort : HyphenedName → List Name
names_in_sort sort = sort.parts

abbrev pub names_in_signal : SigTree → List Name
names_in_signal signal = signal.name ∷ flat_map names_in_sort signal.sorts

abbrev pub names_in_block_part : BlockPart → List Name
names_in_block_part (member.Signal signal) = flat_map names_in_signal signal.signals
names_in_block_part (member.Route route) = []
names_in_block_part (member.Link link) = []
names_in_block_part (member.Process process) = []
names_in_block_part (member.Reference reference) = []

abbrev pub names_in_part : SystemPart → List Name
names_in_part (piece.Use use') = []
names_in_part (piece.Signal signal) = flat_map names_in_signal signal.signals
names_in_part (piece.Channel channel) = []
names_in_part (piece.Procedure procedure) = []
names_in_part (piece.Block block) = flat_map names_in_block_part block.parts

abbrev pub names_in_unit : UnitTree → List Name
names_in_unit (unit.Use use') = []
names_in_unit (unit.System system) = flat_map names_in_part system.parts
names_in_unit (unit.Process process) = []

abbrev pub all_of : List Name → List Name
all_of names = names

-- the names of each space, and the signals with the names of their types
abbrev pub names_looked_at : List UnitTree → List Name
names_looked_at units = flat_map all_of (spaces units) ++ flat_map names_in_unit units
