-- The bodies of processes (Z.101 clause 9, Z.102 clause 9): a body stands in a block, or at file level, where a block has a reference
-- to it. All files together have one body, which is the process. N5: there is none, or a second one. N1: a body at file level to which
-- no block has a reference.
use Rattle.std.specs.Prelude.{ℕ, Bool, not, List, [], ◌∷◌, ◌++◌, flat_map, Option, Some, None}
use Rattle.std.specs.List.{filter}
use Rattle.og_base.specs.declared.Rule.TheVariants.{N1, N5}
use Rattle.og_base.specs.declared.Violation.{Violation}
use Rattle.og_base.specs.Order.{first_of}
use Rattle.og_ast.specs.declared.ground.Name.{Name}
use Rattle.og_ast.specs.declared.system.BlockPart.{BlockPart}
use Rattle.og_ast.specs.declared.system.BlockPart.TheVariants as member
use Rattle.og_ast.specs.declared.system.BlockTree.{BlockTree}
use Rattle.og_ast.specs.declared.system.ProcessTree.{ProcessTree}
use Rattle.og_ast.specs.declared.system.SystemPart.{SystemPart}
use Rattle.og_ast.specs.declared.system.SystemPart.TheVariants as piece
use Rattle.og_ast.specs.declared.system.SystemTree.{SystemTree}
use Rattle.og_ast.specs.declared.system.Unit.{Unit as UnitTree}
use Rattle.og_ast.specs.declared.system.Unit.TheVariants as unit
use Rattle.og_system.specs.Scopes.{is_among, Seen, seen_in_system, seen_in_block, violated, violated_if, in_channel, in_route, in_link, in_reference}

-- ---- blocks, bodies and references, each in the order of the text

-- a block and the system in which it stands
pub record Home : Type 0 where
  pub system : SystemTree
  pub block : BlockTree

abbrev pub home_at : SystemTree → BlockTree → Home
home_at system block = record { system = system; block = block }

abbrev pub homes_of_system_part : SystemTree → SystemPart → List Home
homes_of_system_part system (piece.Use use') = []
homes_of_system_part system (piece.Signal signal) = []
homes_of_system_part system (piece.Channel channel) = []
homes_of_system_part system (piece.Procedure procedure) = []
homes_of_system_part system (piece.Block block) = home_at system block ∷ []

abbrev pub homes_of_unit : UnitTree → List Home
homes_of_unit (unit.Use use') = []
homes_of_unit (unit.System system) = flat_map (homes_of_system_part system) system.parts
homes_of_unit (unit.Process process) = []

abbrev pub homes : List UnitTree → List Home
homes units = flat_map homes_of_unit units

-- a body, and the block in which it stands; at file level it stands in none
pub record Body : Type 0 where
  pub process : ProcessTree
  pub stands_in : Option Home

abbrev pub body_at : ProcessTree → Option Home → Body
body_at process home = record { process = process; stands_in = home }

abbrev pub bodies_of_block_part : Home → BlockPart → List Body
bodies_of_block_part home (member.Signal signal) = []
bodies_of_block_part home (member.Route route) = []
bodies_of_block_part home (member.Link link) = []
bodies_of_block_part home (member.Process process) = body_at process (Some home) ∷ []
bodies_of_block_part home (member.Reference reference) = []

abbrev pub bodies_of_system_part : SystemTree → SystemPart → List Body
bodies_of_system_part system (piece.Use use') = []
bodies_of_system_part system (piece.Signal signal) = []
bodies_of_system_part system (piece.Channel channel) = []
bodies_of_system_part system (piece.Procedure procedure) = []
bodies_of_system_part system (piece.Block block) = flat_map (bodies_of_block_part (home_at system block)) block.parts

abbrev pub bodies_of_unit : UnitTree → List Body
bodies_of_unit (unit.Use use') = []
bodies_of_unit (unit.System system) = flat_map (bodies_of_system_part system) system.parts
bodies_of_unit (unit.Process process) = body_at process None ∷ []

abbrev pub bodies : List UnitTree → List Body
bodies units = flat_map bodies_of_unit units

abbrev pub references_of_block_part : BlockPart → List Name
references_of_block_part (member.Signal signal) = []
references_of_block_part (member.Route route) = []
references_of_block_part (member.Link link) = []
references_of_block_part (member.Process process) = []
references_of_block_part (member.Reference reference) = reference.name ∷ []

abbrev pub references_in_block : BlockTree → List Name
references_in_block block = flat_map references_of_block_part block.parts

abbrev pub references_of_system_part : SystemPart → List Name
references_of_system_part (piece.Use use') = []
references_of_system_part (piece.Signal signal) = []
references_of_system_part (piece.Channel channel) = []
references_of_system_part (piece.Procedure procedure) = []
references_of_system_part (piece.Block block) = references_in_block block

abbrev pub references_of_unit : UnitTree → List Name
references_of_unit (unit.Use use') = []
references_of_unit (unit.System system) = flat_map references_of_system_part system.parts
references_of_unit (unit.Process process) = []

abbrev pub references : List UnitTree → List Name
references units = flat_map references_of_unit units

-- ---- the process

abbrev pub foremost : {X : Type 0} → List X → Option X
foremost [] = None
foremost (x ∷ xs) = Some x

-- the process is the first body
abbrev pub process_of : List UnitTree → Option Body
process_of units = foremost (bodies units)

abbrev pub is_referred_to : BlockTree → ProcessTree → Bool
is_referred_to block process = is_among (references_in_block block) process.name

abbrev pub refers : ProcessTree → Home → Bool
refers process home = is_referred_to home.block process

-- the block of a body is the one in which it stands; that of a body at file level is the first one with a reference to it
abbrev pub home_of : List UnitTree → Body → Option Home
home_of units body = by body.stands_in
  where
    by : Option Home → Option Home
    by (Some home) = Some home
    by None = foremost (filter (refers body.process) (homes units))

-- ---- the rules

-- N5 at the beginning of the first file, or at the second body
abbrev pub miscounted : ℕ → List Body → List Violation
miscounted file [] = record { rule = N5; place = record { file = file; line = 1; column = 1 } } ∷ []
miscounted file (body ∷ []) = []
miscounted file (body ∷ second ∷ more) = violated N5 second.process.name ∷ []

abbrev pub in_block_part : Seen → BlockPart → List Violation
in_block_part seen (member.Signal signal) = []
in_block_part seen (member.Route route) = in_route seen route
in_block_part seen (member.Link link) = in_link seen link
in_block_part seen (member.Process process) = []
in_block_part seen (member.Reference reference) = in_reference seen reference

abbrev pub in_block : List UnitTree → List (List ℕ) → SystemTree → BlockTree → List Violation
in_block units types system block = flat_map (in_block_part (seen_in_block units types system block)) block.parts

abbrev pub in_system_part : List UnitTree → List (List ℕ) → SystemTree → SystemPart → List Violation
in_system_part units types system (piece.Use use') = []
in_system_part units types system (piece.Signal signal) = []
in_system_part units types system (piece.Channel channel) = in_channel (seen_in_system units types system) channel
in_system_part units types system (piece.Procedure procedure) = []
in_system_part units types system (piece.Block block) = in_block units types system block

-- N1: a body at file level to which no block has a reference
abbrev pub in_unit : List UnitTree → List (List ℕ) → UnitTree → List Violation
in_unit units types (unit.Use use') = []
in_unit units types (unit.System system) = flat_map (in_system_part units types system) system.parts
in_unit units types (unit.Process process) = violated_if (not (is_among (references units) process.name)) N1 process.name

-- all of them, where the first file of SDL/PR has this number, and the types and constants of ASN.1 have these names
abbrev pub violations : ℕ → List (List ℕ) → List UnitTree → List Violation
violations file types units = miscounted file (bodies units) ++ flat_map (in_unit units types) units

-- the first one
abbrev pub first_violation : ℕ → List (List ℕ) → List UnitTree → Option Violation
first_violation file types units = first_of (violations file types units)
