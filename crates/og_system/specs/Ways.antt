-- The ways of the process (Z.101 clause 9, Z.102 clause 10): the paths on which signals reach it and leave it. They are the paths of the
-- routes of its block that name the process. Where its block has no route they are the paths of the channels of its system that name
-- the block. Where there is neither, each signal goes both ways. A signal is incoming where a way that carries it leads to the process,
-- and outgoing where one leads from it. CONNECT adds no way, which departs from Z.101: channels alone lead to the process as well.
-- A signal is visible where the process stands if its block declares it, or the system of its block.
use Rattle.std.specs.Prelude.{Bool, true, false, ◌&&◌, ◌||◌, ◌==◌, List, [], ◌∷◌, flat_map, map, Option, Some, None, if◌then◌else◌}
use Rattle.std.specs.List.{filter}
use Rattle.og_base.specs.declared.Place.{Place}
use Rattle.og_ast.specs.declared.ground.Name.{Name}
use Rattle.og_ast.specs.declared.system.BlockPart.{BlockPart}
use Rattle.og_ast.specs.declared.system.BlockPart.TheVariants as member
use Rattle.og_ast.specs.declared.system.BlockTree.{BlockTree}
use Rattle.og_ast.specs.declared.system.PathTree.{PathTree}
use Rattle.og_ast.specs.declared.system.PointTree.{PointTree}
use Rattle.og_ast.specs.declared.system.PointTree.TheVariants as point
use Rattle.og_ast.specs.declared.system.ProcessTree.{ProcessTree}
use Rattle.og_ast.specs.declared.system.SigTree.{SigTree}
use Rattle.og_ast.specs.declared.system.SystemPart.{SystemPart}
use Rattle.og_ast.specs.declared.system.SystemPart.TheVariants as piece
use Rattle.og_ast.specs.declared.system.SystemTree.{SystemTree}
use Rattle.og_ast.specs.declared.system.Unit.{Unit as UnitTree}
use Rattle.og_ast.specs.declared.system.Unit.TheVariants as unit
use Rattle.og_system.specs.Scopes.{folds_as, is_among, routes_in_block}
use Rattle.og_system.specs.Bodies.{Home}

-- ---- the signals of all systems and blocks, in the order of the text

abbrev pub same_place : Place → Place → Bool
same_place a b = (a.file == b.file) && ((a.line == b.line) && (a.column == b.column))

-- a declared signal, and whether it is visible where the process stands
pub record Declaration : Type 0 where
  pub signal : SigTree
  pub visible : Bool

abbrev pub declaration : Bool → SigTree → Declaration
declaration visible signal = record { signal = signal; visible = visible }

abbrev pub declared_in_block_part : Bool → BlockPart → List Declaration
declared_in_block_part visible (member.Signal signal) = map (declaration visible) signal.signals
declared_in_block_part visible (member.Route route) = []
declared_in_block_part visible (member.Link link) = []
declared_in_block_part visible (member.Process process) = []
declared_in_block_part visible (member.Reference reference) = []

-- in a system, where the block of the process stands at this place
abbrev pub declared_in_system_part : Bool → Place → SystemPart → List Declaration
declared_in_system_part visible block (piece.Use use') = []
declared_in_system_part visible block (piece.Signal signal) = map (declaration visible) signal.signals
declared_in_system_part visible block (piece.Channel channel) = []
declared_in_system_part visible block (piece.Procedure procedure) = []
declared_in_system_part visible block (piece.Block other) = flat_map (declared_in_block_part (same_place other.place block)) other.parts

-- where the system and the block of the process stand at these places
abbrev pub declared_in_unit : Place → Place → UnitTree → List Declaration
declared_in_unit system block (unit.Use use') = []
declared_in_unit system block (unit.System other) = flat_map (declared_in_system_part (same_place other.place system) block) other.parts
declared_in_unit system block (unit.Process process) = []

abbrev pub all_signals : List UnitTree → Home → List Declaration
all_signals units home = flat_map (declared_in_unit home.system.place home.block.place) units

-- ---- paths

abbrev pub paths_of_block_part : BlockPart → List PathTree
paths_of_block_part (member.Signal signal) = []
paths_of_block_part (member.Route route) = route.paths
paths_of_block_part (member.Link link) = []
paths_of_block_part (member.Process process) = []
paths_of_block_part (member.Reference reference) = []

abbrev pub paths_of_routes : BlockTree → List PathTree
paths_of_routes block = flat_map paths_of_block_part block.parts

abbrev pub paths_of_system_part : SystemPart → List PathTree
paths_of_system_part (piece.Use use') = []
paths_of_system_part (piece.Signal signal) = []
paths_of_system_part (piece.Channel channel) = channel.paths
paths_of_system_part (piece.Procedure procedure) = []
paths_of_system_part (piece.Block block) = []

abbrev pub paths_of_channels : SystemTree → List PathTree
paths_of_channels system = flat_map paths_of_system_part system.parts

-- whether the name stands at an end of a path
abbrev pub is_at : Name → PointTree → Bool
is_at name (point.Env place) = false
is_at name (point.Name other) = folds_as name other

abbrev pub is_named : Name → PathTree → Bool
is_named name path = is_at name path.from || is_at name path.to

-- ---- ways

-- the name that stands for the process, and the paths that have it at an end
pub record Ways : Type 0 where
  pub name : Name
  pub paths : List PathTree

abbrev pub along : Name → List PathTree → Ways
along name paths = record { name = name; paths = filter (is_named name) paths }

abbrev pub has_any : {X : Type 0} → List X → Bool
has_any [] = false
has_any (x ∷ xs) = true

-- none of them, where each signal goes both ways
abbrev pub ways : ProcessTree → Home → Option Ways
ways process home =
    if has_any (routes_in_block home.block) then Some (along process.name (paths_of_routes home.block))
    else (if has_any (along home.block.name (paths_of_channels home.system)).paths then Some (along home.block.name (paths_of_channels home.system)) else None)

abbrev pub carried : Bool → List Name → List Name
carried is_way signals = if is_way then signals else []

abbrev pub carried_to : Name → PathTree → List Name
carried_to name path = carried (is_at name path.to) path.signals

abbrev pub carried_from : Name → PathTree → List Name
carried_from name path = carried (is_at name path.from) path.signals

abbrev pub is_incoming : Option Ways → Name → Bool
is_incoming None signal = true
is_incoming (Some w) signal = is_among (flat_map (carried_to w.name) w.paths) signal

abbrev pub is_outgoing : Option Ways → Name → Bool
is_outgoing None signal = true
is_outgoing (Some w) signal = is_among (flat_map (carried_from w.name) w.paths) signal

-- a signal, whether it is visible where the process stands, and which ways it goes
pub record Directed : Type 0 where
  pub signal : SigTree
  pub visible : Bool
  pub incoming : Bool
  pub outgoing : Bool

abbrev pub directed : Option Ways → Declaration → Directed
directed ways d = record { signal = d.signal; visible = d.visible; incoming = is_incoming ways d.signal.name; outgoing = is_outgoing ways d.signal.name }

abbrev pub directed_signals : List UnitTree → ProcessTree → Home → List Directed
directed_signals units process home = map (directed (ways process home)) (all_signals units home)
