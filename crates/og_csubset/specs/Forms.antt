-- The form of the cells of a type: one number, or a row with a part for each member of a struct or for each element of an
-- array. The cells of a program that loads always have the forms of its globals' types, so that no statement meets a name, a
-- struct or a label that is not there: what a run does with a program that does not load never shows in one that does.
use Rattle.std.specs.Prelude.{◌≡◌, ℕ, ⊤, List, [], ◌∷◌, Option, Some, None, map, replicate, slice_get}
use Rattle.og_csubset.specs.declared.CProgram.{CProgram}
use Rattle.og_csubset.specs.declared.CStruct.{CStruct}
use Rattle.og_csubset.specs.declared.CMember.{CMember}
use Rattle.og_csubset.specs.declared.CGlobal.{CGlobal}
use Rattle.og_csubset.specs.declared.CType.{CType}
use Rattle.og_csubset.specs.declared.CType.TheVariants.{Int64, Struct}
use Rattle.std.specs.List.{AllByRecursion}
use Rattle.og_csubset.specs.declared.CFunction.{CFunction}
use Rattle.og_ir.specs.Cells.{Cells, Cell, Empty, Both}
use Rattle.og_ir.specs.Arithmetic.{Trouble, Overflow, Index, Divide, Value}
use Rattle.og_ir.specs.Steps.{Frame, Config, Running, Over, Broken}
use Rattle.og_csubset.specs.Kinds.{Kind, members_of}

pub data Form : Type 0 where
  One : Form
  Row : (parts : List Kind) → Form
  Unknown : Form

abbrev pub kind_of_member : CMember → Kind
kind_of_member m = record { type = m.kind; size = m.size }

abbrev pub one_of : CType → Kind
one_of t = record { type = t; size = None }

abbrev pub row_of : Option (List CMember) → Form
row_of None = Unknown
row_of (Some members) = Row (map kind_of_member members)

-- the form of a type
abbrev pub form_of_type : List CStruct → CType → Form
form_of_type structs Int64 = One
form_of_type structs (Struct name) = row_of (members_of structs (Struct name))

-- the form of a type, or of an array of it
abbrev pub form_of_sized : List CStruct → Option ℕ → CType → Form
form_of_sized structs None t = form_of_type structs t
form_of_sized structs (Some n) t = Row (replicate n (one_of t))

abbrev pub form_of : List CStruct → Kind → Form
form_of structs kind = form_of_sized structs kind.size kind.type

-- the cells have the form, and so do their parts
abbrev pub HasForm : List CStruct → Cells → Form → Type 0
HasForm structs (Cell z) One = ⊤
HasForm structs (Cell z) (Row kinds) = ⊥
HasForm structs (Cell z) Unknown = ⊥
HasForm structs Empty One = ⊥
HasForm structs Empty (Row []) = ⊤
HasForm structs Empty (Row (kind ∷ kinds)) = ⊥
HasForm structs Empty Unknown = ⊥
HasForm structs (Both first others) One = ⊥
HasForm structs (Both first others) (Row []) = ⊥
HasForm structs (Both first others) (Row (kind ∷ kinds)) =
    HasForm structs first (form_of structs kind) × HasForm structs others (Row kinds)
HasForm structs (Both first others) Unknown = ⊥

-- the globals have the forms of their types
abbrev pub HaveForms : List CStruct → List CGlobal → List Cells → Type 0
HaveForms structs [] [] = ⊤
HaveForms structs [] (cells ∷ more) = ⊥
HaveForms structs (g ∷ globals) [] = ⊥
HaveForms structs (g ∷ globals) (cells ∷ more) =
    HasForm structs cells (form_of_type structs g.kind) × HaveForms structs globals more

-- a trouble of numbers, indices and divisors
abbrev pub IsOfNumbers : Trouble → Type 0
IsOfNumbers Overflow = ⊤
IsOfNumbers Index = ⊤
IsOfNumbers Divide = ⊤
IsOfNumbers Value = ⊥

-- the function of a call is there
abbrev pub IsCall : CProgram → Frame → Type 0
IsCall program frame = (f : CFunction) × (slice_get program.functions frame.function ≡ Some f)

-- the cells have their forms and the functions are there; a run that is broken is so by a number, an index or a divisor
abbrev pub IsSteady : CProgram → Config → Type 0
IsSteady program (Running globals frame callers) =
    HaveForms program.structs program.globals globals × IsCall program frame × AllByRecursion (IsCall program) callers
IsSteady program (Over globals) = HaveForms program.structs program.globals globals
IsSteady program (Broken trouble) = IsOfNumbers trouble
