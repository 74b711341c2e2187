-- The types of the parameters of signals. They are `boolean`, `integer` and the types of ASN.1. A hyphen counts as an underscore in
-- their names (X.680 clause 12.3). A name that no type has violates N3 where a constant of ASN.1, a built-in procedure or operator, or
-- any declaration that is visible there has it, and N1 otherwise.
use Rattle.std.specs.Prelude.{ℕ, Bool, ◌||◌, List, [], ◌∷◌, ◌++◌, flat_map, is_some, codes}
use Rattle.std.specs.List.{list_any}
use Rattle.std.specs.Str.{bytes_eq}
use Rattle.og_base.specs.declared.Violation.{Violation}
use Rattle.og_names.specs.Folding.{folded, place_of}
use Rattle.og_ast.specs.declared.ground.HyphenedName.{HyphenedName}
use Rattle.og_ast.specs.declared.ground.Name.{Name}
use Rattle.og_ast.specs.declared.system.BlockPart.{BlockPart}
use Rattle.og_ast.specs.declared.system.BlockPart.TheVariants as member
use Rattle.og_ast.specs.declared.system.BlockTree.{BlockTree}
use Rattle.og_ast.specs.declared.system.SigTree.{SigTree}
use Rattle.og_ast.specs.declared.system.SystemPart.{SystemPart}
use Rattle.og_ast.specs.declared.system.SystemPart.TheVariants as piece
use Rattle.og_ast.specs.declared.system.SystemTree.{SystemTree}
use Rattle.og_ast.specs.declared.system.Unit.{Unit as UnitTree}
use Rattle.og_ast.specs.declared.system.Unit.TheVariants as unit
use Rattle.og_system.specs.Scopes.{key, built_in, names_in_block, names_in_system, processes_at_file_level, looked_up}

-- ---- names with hyphens

-- 45 is the hyphen
abbrev pub behind_hyphen : Name → List ℕ
behind_hyphen name = 45 ∷ name.word.bytes

-- as they are written in ASN.1
abbrev pub joined : List Name → List ℕ
joined [] = []
joined (name ∷ names) = name.word.bytes ++ flat_map behind_hyphen names

-- the form in which it is compared
abbrev pub hyphened_key : HyphenedName → List ℕ
hyphened_key sort = folded (joined sort.parts)

-- it stands where its first part stands. One without parts, which no text has, is looked for at the signal
abbrev pub front_of : Name → List Name → Name
front_of signal [] = signal
front_of signal (name ∷ names) = name

-- ---- what a name in this form can be

-- whether one of these folded names is the name
abbrev pub has : List (List ℕ) → List ℕ → Bool
has names name = is_some (place_of names name)

-- whether a declaration has the name
abbrev pub names_one : List Name → List ℕ → Bool
names_one names name = list_any (λ one. bytes_eq name (key one)) names

abbrev pub built_in_types : List (List ℕ)
built_in_types = codes "boolean" ∷ codes "integer" ∷ []

abbrev pub is_type : List (List ℕ) → List ℕ → Bool
is_type types name = has types name || list_any (bytes_eq name) built_in_types

-- a body at file level, a constant of ASN.1, or what is built in
abbrev pub is_outside : List (List ℕ) → List UnitTree → List ℕ → Bool
is_outside constants units name = names_one (processes_at_file_level units) name || (has constants name || list_any (bytes_eq name) built_in)

abbrev pub is_seen_in_system : List (List ℕ) → List UnitTree → SystemTree → List ℕ → Bool
is_seen_in_system constants units system name = names_one (names_in_system system) name || is_outside constants units name

abbrev pub is_seen_in_block : List (List ℕ) → List UnitTree → SystemTree → BlockTree → List ℕ → Bool
is_seen_in_block constants units system block name = names_one (names_in_block block) name || is_seen_in_system constants units system name

-- ---- the rules, where these are the types, and this tells what else is visible

abbrev pub in_sort : List (List ℕ) → (List ℕ → Bool) → Name → HyphenedName → List Violation
in_sort types other signal sort = looked_up (is_type types (hyphened_key sort)) (other (hyphened_key sort)) (front_of signal sort.parts)

abbrev pub in_signal : List (List ℕ) → (List ℕ → Bool) → SigTree → List Violation
in_signal types other signal = flat_map (in_sort types other signal.name) signal.sorts

abbrev pub in_block_part : List (List ℕ) → (List ℕ → Bool) → BlockPart → List Violation
in_block_part types other (member.Signal signal) = flat_map (in_signal types other) signal.signals
in_block_part types other (member.Route route) = []
in_block_part types other (member.Link link) = []
in_block_part types other (member.Process process) = []
in_block_part types other (member.Reference reference) = []

abbrev pub in_system_part : List (List ℕ) → List (List ℕ) → List UnitTree → SystemTree → SystemPart → List Violation
in_system_part types constants units system (piece.Use use') = []
in_system_part types constants units system (piece.Signal signal) = flat_map (in_signal types (is_seen_in_system constants units system)) signal.signals
in_system_part types constants units system (piece.Channel channel) = []
in_system_part types constants units system (piece.Procedure procedure) = []
in_system_part types constants units system (piece.Block block) = flat_map (in_block_part types (is_seen_in_block constants units system block)) block.parts

abbrev pub in_unit : List (List ℕ) → List (List ℕ) → List UnitTree → UnitTree → List Violation
in_unit types constants units (unit.Use use') = []
in_unit types constants units (unit.System system) = flat_map (in_system_part types constants units system) system.parts
in_unit types constants units (unit.Process process) = []

abbrev pub in_sorts : List (List ℕ) → List (List ℕ) → List UnitTree → List Violation
in_sorts types constants units = flat_map (in_unit types constants units) units

-- ---- the types that the signals of all systems and blocks have, in the order of the text

abbrev pub sorts_of_signal : SigTree → List HyphenedName
sorts_of_signal signal = signal.sorts

abbrev pub sorts_of_block_part : BlockPart → List HyphenedName
sorts_of_block_part (member.Signal signal) = flat_map sorts_of_signal signal.signals
sorts_of_block_part (member.Route route) = []
sorts_of_block_part (member.Link link) = []
sorts_of_block_part (member.Process process) = []
sorts_of_block_part (member.Reference reference) = []

abbrev pub sorts_of_part : SystemPart → List HyphenedName
sorts_of_part (piece.Use use') = []
sorts_of_part (piece.Signal signal) = flat_map sorts_of_signal signal.signals
sorts_of_part (piece.Channel channel) = []
sorts_of_part (piece.Procedure procedure) = []
sorts_of_part (piece.Block block) = flat_map sorts_of_block_part block.parts

abbrev pub sorts_of_unit : UnitTree → List HyphenedName
sorts_of_unit (unit.Use use') = []
sorts_of_unit (unit.System system) = flat_map sorts_of_part system.parts
sorts_of_unit (unit.Process process) = []

abbrev pub sorts_in : List UnitTree → List HyphenedName
sorts_in units = flat_map sorts_of_unit units
