-- What names of a program stand for: a label its place in the body, a function its place in the program, and a place of a
-- global its place in the vector of cells. A member moves a place by the cells of the members before it; an index moves it by as
-- many times the cells of an element, and keeps the size of its array. Where a name has no meaning, or what is indexed is no
-- array, there is no number, and nothing moves.
use Rattle.std.specs.Prelude.{ℕ, ◌+◌, List, [], ◌∷◌, if◌then◌else◌, Option, Some, None, map, option_map, unwrap_or, slice_get}
use Rattle.og_model.specs.declared.Model.{Model}
use Rattle.og_csubset.specs.declared.CProgram.{CProgram}
use Rattle.og_csubset.specs.declared.CFunction.{CFunction}
use Rattle.og_csubset.specs.declared.CStruct.{CStruct}
use Rattle.og_csubset.specs.declared.CMember.{CMember}
use Rattle.og_csubset.specs.declared.CStmt.{CStmt}
use Rattle.og_csubset.specs.declared.CStmt.TheVariants as c
use Rattle.og_csubset.specs.declared.CCase.{CCase}
use Rattle.og_csubset.specs.declared.CPlace.{CPlace, CPlace-F, fold-CPlace}
use Rattle.og_csubset.specs.declared.CStep.{CStep, CStep-F, fold-CStep}
use Rattle.og_csubset.specs.declared.CExpr.{CExpr, CExpr-F, fold-CExpr, out-CExpr}
use Rattle.og_csubset.specs.declared.CExpr.TheOpen as number
use Rattle.og_csubset.specs.declared.CTest.{CTest, CTest-F, fold-CTest}
use Rattle.og_csubset.specs.Interface.{events_of}
use Rattle.og_csubset.specs.Kinds.{Kind, place_in, is_in, global_names, event_names, function_names, type_of_one, members_of, member_of, element_of, global_kind, width_of}
use Rattle.og_csubset.specs.Reads.{event_named}
use Rattle.og_csubset.specs.Step.{label_in}
use Rattle.og_ir.specs.Cells.{◌>>=◌}
use Rattle.og_ccells.specs.Layouts.{capped, members_before, layout_of}
use Rattle.og_cstatement.specs.declared.code.Expression.{Expression, Literal, Read, Minus, Op, Choice}
use Rattle.og_cstatement.specs.declared.code.Term.{Term}
use Rattle.og_cstatement.specs.declared.code.Place.{Place, roll-Place}
use Rattle.og_cstatement.specs.declared.code.Test.{Test}
use Rattle.og_cstatement.specs.declared.code.Case.{Case}
use Rattle.og_cstatement.specs.declared.code.Body.{Body}
use Rattle.og_cstatement.specs.declared.code.Statement.{Statement}
use Rattle.og_cstatement.specs.declared.code.Statement.TheVariants.{Assign, Copy, Branch, Goto, Label, Switch, Event, Call, Return}

-- ---- places

-- What a selector adds to a place: so many cells, an index, and what stands there then.
pub record Led : Type 0 where
  pub offset : ℕ
  pub term : Option Term
  pub kind : Option Kind

-- where it is known what it is selected from
abbrev pub Leads : Type 0
Leads = Option Kind → Led

-- the size of an array
abbrev pub size_in : Option Kind → ℕ
size_in kind = unwrap_or (kind >>= λ k. k.size) 0

-- how many cells one of a kind has
abbrev pub width_in : CProgram → Option Kind → ℕ
width_in program None = 0
width_in program (Some kind) = capped (width_of program.structs kind.type)

-- the member of what is known
abbrev pub member_after : CProgram → Option Kind → List ℕ → Option Kind
member_after program kind name = kind >>= λ k. member_of program.structs k name >>= λ found. Some found.1

-- the members of what is known
abbrev pub members_after : List CStruct → Option Kind → Option (List CMember)
members_after structs kind = kind >>= type_of_one >>= members_of structs

-- how many cells stand before the member of a name
abbrev pub offset_after : CProgram → Option Kind → List ℕ → ℕ
offset_after program kind name = members_before program.structs name (members_after program.structs kind)

abbrev pub term_in : CProgram → Option Kind → Expression → Term
term_in program kind e = record { bound = size_in kind; stride = width_in program kind; index = e }

abbrev pub step_layer : CProgram → CStep-F Expression Leads Place Test → Leads
step_layer program (number.Member name) kind =
    record { offset = offset_after program kind name.bytes; term = None; kind = member_after program kind name.bytes }
step_layer program (number.At e) kind = record { offset = 0; term = Some (term_in program kind e); kind = kind >>= element_of }

abbrev pub with_term : Option Term → List Term → List Term
with_term None terms = terms
with_term (Some term) terms = term ∷ terms

-- the selectors one after the other
abbrev pub all_terms : List Leads → Option Kind → List Term
all_terms [] kind = []
all_terms (leads ∷ more) kind = with_term (leads kind).term (all_terms more (leads kind).kind)

abbrev pub all_offset : List Leads → Option Kind → ℕ
all_offset [] kind = 0
all_offset (leads ∷ more) kind = (leads kind).offset + all_offset more (leads kind).kind

abbrev pub all_kind : List Leads → Option Kind → Option Kind
all_kind [] kind = kind
all_kind (leads ∷ more) kind = all_kind more (leads kind).kind

-- where a global lies
abbrev pub global_offset : CProgram → List ℕ → ℕ
global_offset program name =
    unwrap_or (place_in name (global_names program) >>= λ k. option_map (λ e. e.offset) (slice_get (layout_of program).extents k)) 0

abbrev pub place_layer : CProgram → CPlace-F Expression Leads Place Test → Place
place_layer program place = roll-Place (record {
  offset = capped (global_offset program place.name.bytes + all_offset place.path (global_kind program place.name.bytes));
  terms = all_terms place.path (global_kind program place.name.bytes);
})

-- ---- expressions

abbrev pub number_layer : CExpr-F Expression Leads Place Test → Expression
number_layer (number.Number z) = Literal z
number_layer (number.Read place) = Read place
number_layer (number.Minus e) = Minus e
number_layer (number.Op o a b) = Op o a b
number_layer (number.Pick test a b) = Choice test a b

abbrev pub test_layer : CTest-F Expression Leads Place Test → Test
test_layer test = record { op = test.op; left = test.left; right = test.right }

unfoldable pub expression_of : CProgram → CExpr → Expression
expression_of program e = fold-CExpr Expression Leads Place Test number_layer (step_layer program) (place_layer program) test_layer e

unfoldable pub selector_of : CProgram → CStep → Leads
selector_of program s = fold-CStep Expression Leads Place Test number_layer (step_layer program) (place_layer program) test_layer s

unfoldable pub place_of : CProgram → CPlace → Place
place_of program place = fold-CPlace Expression Leads Place Test number_layer (step_layer program) (place_layer program) test_layer place

unfoldable pub test_of : CProgram → CTest → Test
test_of program test = fold-CTest Expression Leads Place Test number_layer (step_layer program) (place_layer program) test_layer test

abbrev pub path_of : CProgram → List CStep → List Leads
path_of program steps = map (selector_of program) steps

-- how many cells stand at a place
abbrev pub width_at : CProgram → CPlace → ℕ
width_at program place = width_in program (all_kind (path_of program place.path) (global_kind program place.name.bytes))

-- ---- statements

-- the place that is read, where the expression is one
abbrev pub place_read : CExpr-F CExpr CStep CPlace CTest → Option CPlace
place_read (number.Number z) = None
place_read (number.Read place) = Some place
place_read (number.Minus e) = None
place_read (number.Op o a b) = None
place_read (number.Pick test a b) = None

abbrev pub assignment_of : CProgram → CPlace → CExpr → Option CPlace → Statement
assignment_of program place e None = Assign (place_of program place) (expression_of program e)
assignment_of program place e (Some from) = Copy (place_of program place) (place_of program from) (width_at program place)

abbrev pub case_of : List CStmt → CCase → Case
case_of body c = record { value = c.value; place = label_in c.label.bytes body }

-- an event, where it is declared as one, and otherwise a function
abbrev pub call_of : CProgram → Model → List ℕ → Statement
call_of program model name =
    if is_in name (event_names program) then Event (event_named model name (events_of model))
    else Call (place_in name (function_names program))

abbrev pub statement_of : CProgram → Model → List CStmt → CStmt → Statement
statement_of program model body (c.Assign place e) = assignment_of program place e (place_read (out-CExpr e))
statement_of program model body (c.IfGoto test label) = Branch (test_of program test) (label_in label.bytes body)
statement_of program model body (c.Goto label) = Goto (label_in label.bytes body)
statement_of program model body (c.Label label) = Label
statement_of program model body (c.Switch e cases otherwise) =
    Switch (expression_of program e) (map (case_of body) cases) (label_in otherwise.bytes body)
statement_of program model body (c.Call name) = call_of program model name.bytes
statement_of program model body c.Return = Return

abbrev pub body_of : CProgram → Model → CFunction → Body
body_of program model f = record { statements = map (statement_of program model f.body) f.body }
