-- Which programs can be run over a model. The rules are tried in order, and the first one that is broken anywhere in the
-- program is the one that is reported. They are what a C compiler asks of such a text (C99 6.2.1, 6.5.16, 6.5.2, 6.8.1 and
-- 6.8.4.2), a limit on the cells, and that the program has the interface of the model. What is declared under a name of the
-- interface has that name's shape, also where it need not be declared.
use Rattle.std.specs.Prelude.{◌≡◌, ℕ, zero, suc, ◌+◌, List, [], ◌∷◌, ◌++◌, Bool, true, false, not, ◌&&◌, ◌||◌, if◌then◌else◌, ◌==◌, nat_lt, Option, Some, None, is_some, map, flat_map, slice_get}
use Rattle.std.specs.List.{list_all, list_any}
use Rattle.og_types.specs.declared.Part.{Part}
use Rattle.og_types.specs.declared.Sort.{Sort}
use Rattle.og_types.specs.declared.Sort.TheVariants as sort
use Rattle.og_types.specs.declared.TypeId.{TypeId}
use Rattle.og_model.specs.declared.Model.{Model}
use Rattle.og_model.specs.declared.EventId.{EventId}
use Rattle.og_csubset.specs.declared.CProgram.{CProgram}
use Rattle.og_csubset.specs.declared.CStruct.{CStruct}
use Rattle.og_csubset.specs.declared.CMember.{CMember}
use Rattle.og_csubset.specs.declared.CType.{CType}
use Rattle.og_csubset.specs.declared.CType.TheVariants.{Int64, Struct}
use Rattle.og_csubset.specs.declared.CFunction.{CFunction}
use Rattle.og_csubset.specs.declared.CStmt.{CStmt}
use Rattle.og_csubset.specs.declared.CStmt.TheVariants.{Assign, IfGoto, Goto, Label, Switch, Call}
use Rattle.og_csubset.specs.declared.CCase.{CCase}
use Rattle.og_csubset.specs.declared.CPlace.{CPlace}
use Rattle.og_csubset.specs.declared.CStep.{CStep}
use Rattle.og_csubset.specs.declared.CStep.TheVariants.{Member, At}
use Rattle.og_csubset.specs.declared.CExpr.{CExpr, out-CExpr, size-CExpr}
use Rattle.og_csubset.specs.declared.CExpr.TheOpen.{CExpr-F, Number, Read, Minus, Op, Pick}
use Rattle.og_csubset.specs.declared.CTest.{CTest}
use Rattle.og_csubset.specs.declared.LoadRule.{LoadRule}
use Rattle.og_csubset.specs.declared.LoadRule.TheVariants as rule
use Rattle.og_ir.specs.Cells.{◌>>=◌}
use Rattle.og_ir.specs.Arithmetic.{is_same}
use Rattle.og_csubset.specs.Kinds.{Kind, is_in, struct_names, global_names, event_names, function_names, same_type, type_of_one, members_of, member_of, element_of, global_kind, total, width_of}
use Rattle.og_csubset.specs.Interface as interface
use Rattle.og_csubset.specs.Interface.{Shape, Typed, Field}

-- there is a value, and it passes the test
abbrev pub passes : {A : Type 0} → (A → Bool) → Option A → Bool
passes test None = false
passes test (Some x) = test x

-- K3: a name stands twice

abbrev pub has_twice : List (List ℕ) → Bool
has_twice [] = false
has_twice (name ∷ names) = is_in name names || has_twice names

abbrev pub all_names : CProgram → List (List ℕ)
all_names program =
    struct_names program ++ global_names program ++ event_names program ++ function_names program

abbrev pub breaks_K3 : CProgram → Bool
breaks_K3 program =
    has_twice (all_names program)
    || list_any (λ s. has_twice (map (λ m. m.name.bytes) s.members)) program.structs

-- K4: a struct type is used before its definition, or has none

abbrev pub is_known : List (List ℕ) → CType → Bool
is_known names Int64 = true
is_known names (Struct name) = is_in name.bytes names

-- each struct's members have types of structs before it
abbrev pub structs_known : List (List ℕ) → List CStruct → Bool
structs_known names [] = true
structs_known names (s ∷ structs) =
    list_all (λ m. is_known names m.kind) s.members && structs_known (s.name.bytes ∷ names) structs

abbrev pub breaks_K4 : CProgram → Bool
breaks_K4 program =
    not (structs_known [] program.structs && list_all (λ g. is_known (struct_names program) g.kind) program.globals)

-- K5: an unknown global or member, a selector on the wrong kind, a struct where a number is needed, or two types

abbrev pub is_number_type : Option CType → Bool
is_number_type None = false
is_number_type (Some Int64) = true
is_number_type (Some (Struct name)) = false

-- what the selectors lead to, where indices are numbers
abbrev pub kind_after : (CExpr → Bool) → List CStruct → Kind → List CStep → Option Kind
kind_after is_number structs kind [] = Some kind
kind_after is_number structs kind (Member name ∷ steps) =
    member_of structs kind name.bytes >>= λ found. kind_after is_number structs found.1 steps
kind_after is_number structs kind (At e ∷ steps) =
    if is_number e then (element_of kind >>= λ element. kind_after is_number structs element steps) else None

-- the type of a place, where it has one
abbrev pub type_by : (CExpr → Bool) → CProgram → CPlace → Option CType
type_by is_number program place =
    global_kind program place.name.bytes >>= λ kind.
    kind_after is_number program.structs kind place.path >>= type_of_one

-- the expression is a number, where these parts are
abbrev pub number_by : (CExpr → Bool) → CProgram → CExpr-F CExpr CStep CPlace CTest → Bool
number_by is_number program (Number n) = true
number_by is_number program (Read place) = is_number_type (type_by is_number program place)
number_by is_number program (Minus e) = is_number e
number_by is_number program (Op o a b) = is_number a && is_number b
number_by is_number program (Pick test a b) =
    is_number test.left && is_number test.right && is_number a && is_number b

abbrev pub number_within : ℕ → CProgram → CExpr → Bool
number_within zero program e = false
number_within (suc depth) program e = number_by (number_within depth program) program (out-CExpr e)

-- each place in the expression is there, and is a number
unfoldable pub is_number : CProgram → CExpr → Bool
is_number program e = number_within (size-CExpr e) program e

abbrev pub type_of_place : CProgram → CPlace → Option CType
type_of_place program place = type_by (is_number program) program place

-- the type of a right side: that of a place, which may be a struct, or a number
abbrev pub type_of_shape : CProgram → CExpr → CExpr-F CExpr CStep CPlace CTest → Option CType
type_of_shape program e (Read place) = type_of_place program place
type_of_shape program e shape = if is_number program e then Some Int64 else None

abbrev pub type_of : CProgram → CExpr → Option CType
type_of program e = type_of_shape program e (out-CExpr e)

-- both have a type, and the same one
abbrev pub agree : Option CType → Option CType → Bool
agree (Some t) (Some u) = same_type t u
agree (Some t) None = false
agree None o = false

abbrev pub is_typed : CProgram → CStmt → Bool
is_typed program (Assign place e) = agree (type_of_place program place) (type_of program e)
is_typed program (IfGoto test label) = is_number program test.left && is_number program test.right
is_typed program (Switch e cases otherwise) = is_number program e
is_typed program statement = true

abbrev pub breaks_K5 : CProgram → Bool
breaks_K5 program = not (list_all (λ f. list_all (is_typed program) f.body) program.functions)

-- K6: a label that its function lacks or has twice, or two equal cases

abbrev pub labels_of : List CStmt → List (List ℕ)
labels_of [] = []
labels_of (Label name ∷ body) = name.bytes ∷ labels_of body
labels_of (statement ∷ body) = labels_of body

-- the labels that a statement jumps to
abbrev pub targets_of : CStmt → List (List ℕ)
targets_of (IfGoto test label) = label.bytes ∷ []
targets_of (Goto label) = label.bytes ∷ []
targets_of (Switch e cases otherwise) = otherwise.bytes ∷ map (λ c. c.label.bytes) cases
targets_of statement = []

abbrev pub has_equal_cases : List CCase → Bool
has_equal_cases [] = false
has_equal_cases (c ∷ cases) = list_any (λ other. is_same c.value other.value) cases || has_equal_cases cases

abbrev pub repeats_case : CStmt → Bool
repeats_case (Switch e cases otherwise) = has_equal_cases cases
repeats_case statement = false

abbrev pub has_labels : CFunction → Bool
has_labels f =
    not (has_twice (labels_of f.body))
    && list_all (λ label. is_in label (labels_of f.body)) (flat_map targets_of f.body)
    && not (list_any repeats_case f.body)

abbrev pub breaks_K6 : CProgram → Bool
breaks_K6 program = not (list_all has_labels program.functions)

-- K7: a call of neither an event nor a function defined earlier

abbrev pub calls_known : List (List ℕ) → CStmt → Bool
calls_known names (Call name) = is_in name.bytes names
calls_known names statement = true

abbrev pub functions_known : List (List ℕ) → List CFunction → Bool
functions_known names [] = true
functions_known names (f ∷ functions) =
    list_all (calls_known names) f.body && functions_known (f.name.bytes ∷ names) functions

abbrev pub breaks_K7 : CProgram → Bool
breaks_K7 program = not (functions_known (event_names program) program.functions)

-- K8: more than 16,777,216 cells

abbrev pub cells_of_globals : CProgram → ℕ
cells_of_globals program = total (map (λ g. width_of program.structs g.kind) program.globals)

abbrev pub breaks_K8 : CProgram → Bool
breaks_K8 program = nat_lt 16777216 (cells_of_globals program)

-- K9: an interface name missing or of another shape, or an event that is not the model's

-- the members are so many parts, none of them an array, with the parts' shapes
abbrev pub have_shapes : (CType → TypeId → Bool) → List CMember → List Part → Bool
have_shapes has_shape [] [] = true
have_shapes has_shape [] (p ∷ parts) = false
have_shapes has_shape (m ∷ members) [] = false
have_shapes has_shape (m ∷ members) (p ∷ parts) =
    not (is_some m.size) && has_shape m.kind p.sort && have_shapes has_shape members parts

abbrev pub is_int64 : CType → Bool
is_int64 Int64 = true
is_int64 (Struct name) = false

-- a member that is one number
abbrev pub is_one_number : CMember → Bool
is_one_number m = not (is_some m.size) && is_int64 m.kind

-- the number of the alternative, then the alternatives
abbrev pub is_choice : (CType → TypeId → Bool) → List Part → List CMember → Bool
is_choice has_shape parts [] = false
is_choice has_shape parts (m ∷ members) = is_one_number m && have_shapes has_shape members parts

abbrev pub is_array : (CType → TypeId → Bool) → ℕ → TypeId → CMember → Bool
is_array has_shape n item m = passes (λ size. size == n) m.size && has_shape m.kind item

-- the length, then an array of the greatest length, which is left out where that is 0
abbrev pub is_seq_of : (CType → TypeId → Bool) → ℕ → TypeId → List CMember → Bool
is_seq_of has_shape hi item [] = false
is_seq_of has_shape zero item (m ∷ []) = is_one_number m
is_seq_of has_shape zero item (m ∷ array ∷ members) = false
is_seq_of has_shape (suc hi) item (m ∷ []) = false
is_seq_of has_shape (suc hi) item (m ∷ array ∷ []) = is_one_number m && is_array has_shape (suc hi) item array
is_seq_of has_shape (suc hi) item (m ∷ array ∷ more ∷ members) = false

-- the type is a struct whose members pass
abbrev pub is_struct : List CStruct → (List CMember → Bool) → CType → Bool
is_struct structs test t = passes test (members_of structs t)

abbrev pub shape_by : (CType → TypeId → Bool) → List CStruct → CType → Option Sort → Bool
shape_by has_shape structs t None = false
shape_by has_shape structs t (Some (sort.Int lo hi)) = is_int64 t
shape_by has_shape structs t (Some sort.Bool) = is_int64 t
shape_by has_shape structs t (Some (sort.Enumerated names numbers)) = is_int64 t
shape_by has_shape structs t (Some (sort.Sequence [])) = is_int64 t
shape_by has_shape structs t (Some (sort.Sequence (p ∷ parts))) =
    is_struct structs (λ members. have_shapes has_shape members (p ∷ parts)) t
shape_by has_shape structs t (Some (sort.Choice parts)) = is_struct structs (is_choice has_shape parts) t
shape_by has_shape structs t (Some (sort.SeqOf lo hi item)) = is_struct structs (is_seq_of has_shape hi item) t
shape_by has_shape structs t (Some sort.Opaque) = false

abbrev pub shape_within : ℕ → List CStruct → List Sort → CType → TypeId → Bool
shape_within zero structs sorts t type = false
shape_within (suc depth) structs sorts t type =
    shape_by (shape_within depth structs sorts) structs t (slice_get sorts type.0)

-- the C type is as a value of the model's type asks
abbrev pub is_shaped : List CStruct → List Sort → Shape → CType → Bool
is_shaped structs sorts interface.Number t = is_int64 t
is_shaped structs sorts (Typed type) t = shape_within (type.0 + 1) structs sorts t type

-- the global is declared, with its shape
abbrev pub has_field : CProgram → Model → Field → Bool
has_field program model field =
    passes (λ kind. is_shaped program.structs model.types field.shape kind.type) (global_kind program field.name)

-- nothing is declared under the name
abbrev pub is_free : CProgram → List ℕ → Bool
is_free program name = not (is_in name (all_names program))

-- what is declared under the name of an event is that event, and what is declared under the names of its globals has their
-- shapes; an event that is declared has all its globals
abbrev pub has_event : CProgram → Model → EventId → Bool
has_event program model event =
    if is_in (interface.event_name model event) (event_names program)
    then list_all (has_field program model) (interface.event_globals model event)
    else is_free program (interface.event_name model event)
    && list_all (λ field. is_free program field.name || has_field program model field) (interface.event_globals model event)

abbrev pub breaks_K9 : CProgram → Model → Bool
breaks_K9 program model =
    not (list_all (λ name. is_in name (function_names program)) (interface.functions_of model)
    && list_all (has_field program model) (interface.fields_of model)
    && list_all (has_event program model) (interface.events_of model)
    && list_all (λ name. is_in name (map (interface.event_name model) (interface.events_of model))) (event_names program))

-- the first rule that is broken
abbrev pub first_broken : List (Bool × LoadRule) → Option LoadRule
first_broken [] = None
first_broken (test ∷ tests) = if test.0 then Some test.1 else first_broken tests

unfoldable pub first_load_rule : CProgram → Model → Option LoadRule
first_load_rule program model =
    first_broken
    ((breaks_K3 program, rule.K3)
    ∷ (breaks_K4 program, rule.K4)
    ∷ (breaks_K5 program, rule.K5)
    ∷ (breaks_K6 program, rule.K6)
    ∷ (breaks_K7 program, rule.K7)
    ∷ (breaks_K8 program, rule.K8)
    ∷ (breaks_K9 program model, rule.K9)
    ∷ [])

-- the program breaks none of the rules
abbrev pub Loads : CProgram → Model → Type 0
Loads program model = first_load_rule program model ≡ None
