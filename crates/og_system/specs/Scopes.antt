-- Names of systems and blocks (after Z.101 clause 6.3): which names of each kind are declared in them, which of those are visible in a
-- system and in a block, and which used names have none. Names are compared without case. A block sees what it declares, what its
-- system declares, and the bodies at file level; two blocks see nothing of each other. A name that is used and that no visible
-- declaration of its kind has violates N3 where a declaration of another kind has it, and N1 otherwise.
use Rattle.std.specs.Prelude.{ℕ, Bool, not, ◌&&◌, ◌||◌, List, [], ◌∷◌, ◌++◌, map, flat_map, is_some, codes, if◌then◌else◌}
use Rattle.std.specs.List.{list_any}
use Rattle.std.specs.Str.{bytes_eq}
use Rattle.og_base.specs.declared.Rule.{Rule}
use Rattle.og_base.specs.declared.Rule.TheVariants.{N1, N3}
use Rattle.og_base.specs.declared.Violation.{Violation}
use Rattle.og_names.specs.Folding.{folded, place_of}
use Rattle.og_ast.specs.declared.ground.Name.{Name}
use Rattle.og_ast.specs.declared.system.BlockPart.{BlockPart}
use Rattle.og_ast.specs.declared.system.BlockPart.TheVariants as member
use Rattle.og_ast.specs.declared.system.BlockTree.{BlockTree}
use Rattle.og_ast.specs.declared.system.ChannelTree.{ChannelTree}
use Rattle.og_ast.specs.declared.system.LinkTree.{LinkTree}
use Rattle.og_ast.specs.declared.system.PathTree.{PathTree}
use Rattle.og_ast.specs.declared.system.PointTree.{PointTree}
use Rattle.og_ast.specs.declared.system.PointTree.TheVariants as point
use Rattle.og_ast.specs.declared.system.ReferenceTree.{ReferenceTree}
use Rattle.og_ast.specs.declared.system.RouteTree.{RouteTree}
use Rattle.og_ast.specs.declared.system.SigTree.{SigTree}
use Rattle.og_ast.specs.declared.system.SystemPart.{SystemPart}
use Rattle.og_ast.specs.declared.system.SystemPart.TheVariants as piece
use Rattle.og_ast.specs.declared.system.SystemTree.{SystemTree}
use Rattle.og_ast.specs.declared.system.Unit.{Unit as UnitTree}
use Rattle.og_ast.specs.declared.system.Unit.TheVariants as unit

-- ---- names

-- the form in which a name is compared
abbrev pub key : Name → List ℕ
key name = folded name.word.bytes

abbrev pub folds_as : Name → Name → Bool
folds_as a b = bytes_eq (key a) (key b)

-- whether one of these has the name
abbrev pub is_among : List Name → Name → Bool
is_among names name = list_any (folds_as name) names

-- ---- what is declared, and where

abbrev pub name_of_signal : SigTree → Name
name_of_signal signal = signal.name

abbrev pub signals_of_block_part : BlockPart → List Name
signals_of_block_part (member.Signal signal) = map name_of_signal signal.signals
signals_of_block_part (member.Route route) = []
signals_of_block_part (member.Link link) = []
signals_of_block_part (member.Process process) = []
signals_of_block_part (member.Reference reference) = []

abbrev pub routes_of_block_part : BlockPart → List Name
routes_of_block_part (member.Signal signal) = []
routes_of_block_part (member.Route route) = route.name ∷ []
routes_of_block_part (member.Link link) = []
routes_of_block_part (member.Process process) = []
routes_of_block_part (member.Reference reference) = []

-- a reference declares no process: its body does, at file level
abbrev pub processes_of_block_part : BlockPart → List Name
processes_of_block_part (member.Signal signal) = []
processes_of_block_part (member.Route route) = []
processes_of_block_part (member.Link link) = []
processes_of_block_part (member.Process process) = process.name ∷ []
processes_of_block_part (member.Reference reference) = []

abbrev pub signals_of_system_part : SystemPart → List Name
signals_of_system_part (piece.Use use') = []
signals_of_system_part (piece.Signal signal) = map name_of_signal signal.signals
signals_of_system_part (piece.Channel channel) = []
signals_of_system_part (piece.Procedure procedure) = []
signals_of_system_part (piece.Block block) = []

abbrev pub channels_of_system_part : SystemPart → List Name
channels_of_system_part (piece.Use use') = []
channels_of_system_part (piece.Signal signal) = []
channels_of_system_part (piece.Channel channel) = channel.name ∷ []
channels_of_system_part (piece.Procedure procedure) = []
channels_of_system_part (piece.Block block) = []

abbrev pub blocks_of_system_part : SystemPart → List Name
blocks_of_system_part (piece.Use use') = []
blocks_of_system_part (piece.Signal signal) = []
blocks_of_system_part (piece.Channel channel) = []
blocks_of_system_part (piece.Procedure procedure) = []
blocks_of_system_part (piece.Block block) = block.name ∷ []

abbrev pub procedures_of_system_part : SystemPart → List Name
procedures_of_system_part (piece.Use use') = []
procedures_of_system_part (piece.Signal signal) = []
procedures_of_system_part (piece.Channel channel) = []
procedures_of_system_part (piece.Procedure procedure) = procedure.name ∷ []
procedures_of_system_part (piece.Block block) = []

-- the bodies at file level
abbrev pub processes_of_unit : UnitTree → List Name
processes_of_unit (unit.Use use') = []
processes_of_unit (unit.System system) = []
processes_of_unit (unit.Process process) = process.name ∷ []

-- ---- what is declared of a kind

abbrev pub signals_in_system : SystemTree → List Name
signals_in_system system = flat_map signals_of_system_part system.parts

abbrev pub channels_in_system : SystemTree → List Name
channels_in_system system = flat_map channels_of_system_part system.parts

abbrev pub blocks_in_system : SystemTree → List Name
blocks_in_system system = flat_map blocks_of_system_part system.parts

abbrev pub signals_in_block : BlockTree → List Name
signals_in_block block = flat_map signals_of_block_part block.parts

abbrev pub routes_in_block : BlockTree → List Name
routes_in_block block = flat_map routes_of_block_part block.parts

abbrev pub processes_in_block : BlockTree → List Name
processes_in_block block = flat_map processes_of_block_part block.parts

abbrev pub processes_at_file_level : List UnitTree → List Name
processes_at_file_level units = flat_map processes_of_unit units

-- ---- what is visible of any kind

-- names of types, of procedures and of operators that are there without a declaration
abbrev pub built_in : List (List ℕ)
built_in =
    codes "boolean" ∷ codes "integer" ∷ codes "set_timer" ∷ codes "reset_timer" ∷ codes "append" ∷ codes "write" ∷ codes "writeln" ∷ codes "length" ∷ codes "present" ∷ []

-- the names of the types and constants of ASN.1, and those that are built in
abbrev pub is_outside : List (List ℕ) → Name → Bool
is_outside types name = is_some (place_of types (key name)) || list_any (bytes_eq (key name)) built_in

abbrev pub names_of_block_part : BlockPart → List Name
names_of_block_part part = signals_of_block_part part ++ (routes_of_block_part part ++ processes_of_block_part part)

abbrev pub names_of_system_part : SystemPart → List Name
names_of_system_part part = signals_of_system_part part ++ (channels_of_system_part part ++ (blocks_of_system_part part ++ procedures_of_system_part part))

abbrev pub names_in_block : BlockTree → List Name
names_in_block block = flat_map names_of_block_part block.parts

abbrev pub names_in_system : SystemTree → List Name
names_in_system system = flat_map names_of_system_part system.parts

-- ---- what is visible in one place: whether a declaration of the kind, or of any kind, has the name

pub record Seen : Type 0 where
  pub signal : Name → Bool
  pub channel : Name → Bool
  pub route : Name → Bool
  pub block : Name → Bool
  pub process : Name → Bool
  -- a body at file level
  pub body : Name → Bool
  pub any : Name → Bool

abbrev pub seen_in_system : List UnitTree → List (List ℕ) → SystemTree → Seen
seen_in_system units types system = record {
  signal = is_among (signals_in_system system);
  channel = is_among (channels_in_system system);
  route = is_among [];
  block = is_among (blocks_in_system system);
  process = is_among (processes_at_file_level units);
  body = is_among (processes_at_file_level units);
  any = λ name. is_among (names_in_system system) name || (is_among (processes_at_file_level units) name || is_outside types name);
}

-- a block sees its own declarations and those of its system
abbrev pub seen_in_block : List UnitTree → List (List ℕ) → SystemTree → BlockTree → Seen
seen_in_block units types system block =
    let around = seen_in_system units types system in
    record {
      signal = λ name. is_among (signals_in_block block) name || around.signal name;
      channel = around.channel;
      route = is_among (routes_in_block block);
      block = around.block;
      process = λ name. is_among (processes_in_block block) name || around.process name;
      body = around.body;
      any = λ name. is_among (names_in_block block) name || around.any name;
    }

-- ---- used names

abbrev pub violated : Rule → Name → Violation
violated rule name = record { rule = rule; place = name.place }

-- the violation, if the rule is broken
abbrev pub violated_if : Bool → Rule → Name → List Violation
violated_if broken rule name = if broken then violated rule name ∷ [] else []

-- a name that a declaration of its kind has, or one of any kind
abbrev pub looked_up : Bool → Bool → Name → List Violation
looked_up own any name = if own then [] else (if any then violated N3 name ∷ [] else violated N1 name ∷ [])

abbrev pub used : (Name → Bool) → Seen → Name → List Violation
used own seen name = looked_up (own name) (seen.any name) name

-- at an end of a path stands ENV or a name
abbrev pub in_point : (Name → Bool) → Seen → PointTree → List Violation
in_point own seen (point.Env place) = []
in_point own seen (point.Name name) = used own seen name

-- a path between two of a kind, with the signals that it carries
abbrev pub in_path : (Name → Bool) → Seen → PathTree → List Violation
in_path own seen path = in_point own seen path.from ++ (in_point own seen path.to ++ flat_map (used seen.signal seen) path.signals)

-- a channel joins blocks
abbrev pub in_channel : Seen → ChannelTree → List Violation
in_channel seen channel = flat_map (in_path seen.block seen) channel.paths

-- a route joins processes
abbrev pub in_route : Seen → RouteTree → List Violation
in_route seen route = flat_map (in_path seen.process seen) route.paths

-- CONNECT has channels in front of AND, and routes behind it
abbrev pub in_link : Seen → LinkTree → List Violation
in_link seen link = flat_map (used seen.channel seen) link.channels ++ flat_map (used seen.route seen) link.routes

-- N1: a reference without a body at file level. N3: one whose name no process has, but something of another kind
abbrev pub in_reference : Seen → ReferenceTree → List Violation
in_reference seen reference = looked_up (seen.body reference.name) (not (seen.process reference.name) && seen.any reference.name) reference.name
