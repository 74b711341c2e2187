-- What a name of a program stands for, and what stands at a place of it: a number, a struct, or an array of one of these
-- (C99 6.2.5). A global is one number or one struct; a member of a struct may be an array besides.
use Rattle.std.specs.Prelude.{ℕ, zero, suc, ◌+◌, ◌*◌, pos, length, List, [], ◌∷◌, Bool, true, false, if◌then◌else◌, Option, Some, None, find, map}
use Rattle.std.specs.List.{list_any}
use Rattle.std.specs.Str.{bytes_eq}
use Rattle.og_csubset.specs.declared.CProgram.{CProgram}
use Rattle.og_csubset.specs.declared.CStruct.{CStruct}
use Rattle.og_csubset.specs.declared.CMember.{CMember}
use Rattle.og_csubset.specs.declared.CType.{CType}
use Rattle.og_csubset.specs.declared.CType.TheVariants.{Int64, Struct}
use Rattle.og_ir.specs.Cells.{◌>>=◌, Cells, Cell, Empty, row, equal_parts, cells_by}

-- the first place of a name among names
abbrev pub place_in : List ℕ → List (List ℕ) → Option ℕ
place_in name [] = None
place_in name (other ∷ names) =
    if bytes_eq name other then Some 0 else (place_in name names >>= λ k. Some (k + 1))

-- the name stands among the names
abbrev pub is_in : List ℕ → List (List ℕ) → Bool
is_in name names = list_any (bytes_eq name) names

abbrev pub struct_names : CProgram → List (List ℕ)
struct_names program = map (λ s. s.name.bytes) program.structs

abbrev pub global_names : CProgram → List (List ℕ)
global_names program = map (λ g. g.name.bytes) program.globals

abbrev pub event_names : CProgram → List (List ℕ)
event_names program = map (λ e. e.bytes) program.events

abbrev pub function_names : CProgram → List (List ℕ)
function_names program = map (λ f. f.name.bytes) program.functions

-- One of a type, or an array of so many of it.
pub record Kind : Type 0 where
  pub type : CType
  pub size : Option ℕ

abbrev pub same_type : CType → CType → Bool
same_type Int64 Int64 = true
same_type Int64 (Struct name) = false
same_type (Struct name) Int64 = false
same_type (Struct name) (Struct other) = bytes_eq name.bytes other.bytes

-- the type of a place that is no array
abbrev pub type_unless : Option ℕ → CType → Option CType
type_unless None t = Some t
type_unless (Some n) t = None

abbrev pub type_of_one : Kind → Option CType
type_of_one kind = type_unless kind.size kind.type

-- the members of a struct type
abbrev pub members_of : List CStruct → CType → Option (List CMember)
members_of structs Int64 = None
members_of structs (Struct name) =
    find (λ s. bytes_eq name.bytes s.name.bytes) structs >>= λ s. Some s.members

-- the place of a member, and what it is
abbrev pub member_in : List ℕ → List CMember → Option (ℕ × Kind)
member_in name [] = None
member_in name (m ∷ members) =
    if bytes_eq name m.name.bytes then Some (0, record { type = m.kind; size = m.size })
    else (member_in name members >>= λ found. Some (found.0 + 1, found.1))

-- the same of what a place holds
abbrev pub member_of : List CStruct → Kind → List ℕ → Option (ℕ × Kind)
member_of structs kind name = type_of_one kind >>= members_of structs >>= member_in name

-- what an element of an array is
abbrev pub element_of : Kind → Option Kind
element_of kind = kind.size >>= λ n. Some (record { type = kind.type; size = None })

-- what a global is
abbrev pub global_kind : CProgram → List ℕ → Option Kind
global_kind program name =
    find (λ g. bytes_eq name g.name.bytes) program.globals >>= λ g. Some (record { type = g.kind; size = None })

-- so many of a type
abbrev pub sized : Option ℕ → Cells → Cells
sized None cells = cells
sized (Some n) cells = equal_parts n cells

-- a type whose structs lie at most so deep in one another, each cell 0
abbrev pub blank_within : ℕ → List CStruct → CType → Cells
blank_within zero structs t = Empty
blank_within (suc depth) structs Int64 = Cell (pos 0)
blank_within (suc depth) structs (Struct name) =
    cells_by (λ members. row (map (λ m. sized m.size (blank_within depth structs m.kind)) members))
    (members_of structs (Struct name))

-- how many cells so many of a type have
abbrev pub times : Option ℕ → ℕ → ℕ
times None width = width
times (Some n) width = n * width

abbrev pub total : List ℕ → ℕ
total [] = 0
total (n ∷ numbers) = n + total numbers

abbrev pub total_by : {A : Type 0} → (A → ℕ) → Option (List A) → ℕ
total_by f None = 0
total_by f (Some xs) = total (map f xs)

-- how many cells such a type has
abbrev pub width_within : ℕ → List CStruct → CType → ℕ
width_within zero structs t = 0
width_within (suc depth) structs Int64 = 1
width_within (suc depth) structs (Struct name) =
    total_by (λ m. times m.size (width_within depth structs m.kind)) (members_of structs (Struct name))

-- a struct holds structs that are defined before it, so no more lie in one another than there are
abbrev pub blank_type : List CStruct → CType → Cells
blank_type structs t = blank_within (length structs + 1) structs t

abbrev pub width_of : List CStruct → CType → ℕ
width_of structs t = width_within (length structs + 1) structs t

-- the cells of all globals at load, each of them 0
abbrev pub first_globals : CProgram → List Cells
first_globals program = map (λ g. blank_type program.structs g.kind) program.globals
