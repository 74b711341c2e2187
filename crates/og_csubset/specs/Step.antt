-- What a program of the C subset does, one statement at a time (C99 6.8). A label is a statement too, and the end of a
-- function is one step, as return. Operands are computed from left to right, and the indices of a target before the right
-- side; each index is tested where it is computed. A choice computes only the side that it takes. What ISO C leaves
-- undefined (C99 6.5 and 6.5.5: a number outside 64 bits, a divisor of zero, an index outside its array) breaks the run.
use Rattle.std.specs.Prelude.{ℕ, zero, suc, ◌+◌, ℤ, List, [], ◌∷◌, Bool, true, false, not, if◌then◌else◌, Option, Some, None, Result, Ok, Err, int_le, int_lt, slice_get}
use Rattle.std.specs.Prelude.{option_map}
use Rattle.std.specs.Str.{bytes_eq}
use Rattle.og_csubset.specs.declared.CProgram.{CProgram}
use Rattle.og_csubset.specs.declared.CStruct.{CStruct}
use Rattle.og_csubset.specs.declared.CStmt.{CStmt}
use Rattle.og_csubset.specs.declared.CStmt.TheVariants.{Assign, IfGoto, Goto, Label, Switch, Call, Return}
use Rattle.og_csubset.specs.declared.CCase.{CCase}
use Rattle.og_csubset.specs.declared.CPlace.{CPlace}
use Rattle.og_csubset.specs.declared.CStep.{CStep}
use Rattle.og_csubset.specs.declared.CStep.TheVariants.{Member, At}
use Rattle.og_csubset.specs.declared.CExpr.{CExpr, out-CExpr, size-CExpr}
use Rattle.og_csubset.specs.declared.CExpr.TheOpen.{CExpr-F, Number, Read, Minus, Op, Pick}
use Rattle.og_csubset.specs.declared.CTest.{CTest}
use Rattle.og_csubset.specs.declared.COp.{COp}
use Rattle.og_csubset.specs.declared.COp.TheVariants as op
use Rattle.og_csubset.specs.declared.CRel.{CRel}
use Rattle.og_csubset.specs.declared.CRel.TheVariants as rel
use Rattle.og_csubset.specs.Kinds.{Kind, place_in, is_in, global_names, event_names, function_names, member_of, element_of, global_kind}
use Rattle.og_ir.specs.Cells.{Cells, Cell, number_in}
use Rattle.og_ir.specs.Reading.{below}
use Rattle.og_ir.specs.Arithmetic.{Trouble, Index, Value, ◌>>=◌, or_else, in_64_bits, sum_of, difference_of, product_of, quotient_of, remainder_of, negative_of, is_same}
use Rattle.og_ir.specs.Steps.{Frame, Config, Running, Over, Broken, Ran, quiet, with_value, onward, jumped, returned, called, showing}
use Rattle.og_ir.specs.FlatSteps.{Spot, cells_at, put}

-- the path of a place's members and elements, where a name without a meaning is of no value
abbrev pub walk : (CExpr → Result ℤ Trouble) → List CStruct → Kind → List CStep → Result (List ℕ) Trouble
walk value structs kind [] = Ok []
walk value structs kind (Member name ∷ steps) = do
  found ← or_else (member_of structs kind name.bytes) Value
  path ← walk value structs found.1 steps
  Ok (found.0 ∷ path)
walk value structs kind (At e ∷ steps) = do
  z ← value e
  element ← or_else (element_of kind) Value
  size ← or_else kind.size Value
  k ← or_else (below size z) Index
  path ← walk value structs element steps
  Ok (k ∷ path)

-- the global, and the path in it
abbrev pub spot_by : (CExpr → Result ℤ Trouble) → CProgram → CPlace → Result Spot Trouble
spot_by value program place = do
  base ← or_else (place_in place.name.bytes (global_names program)) Value
  kind ← or_else (global_kind program place.name.bytes) Value
  path ← walk value program.structs kind place.path
  Ok (record { base = base; path = path })

abbrev pub operation : COp → ℤ → ℤ → Result ℤ Trouble
operation op.Add = sum_of in_64_bits
operation op.Sub = difference_of in_64_bits
operation op.Mul = product_of in_64_bits
operation op.Div = quotient_of in_64_bits
operation op.Rem = remainder_of in_64_bits

abbrev pub relation : CRel → ℤ → ℤ → Bool
relation rel.Eq x y = is_same x y
relation rel.Ne x y = not (is_same x y)
relation rel.Lt x y = int_lt x y
relation rel.Le x y = int_le x y
relation rel.Gt x y = int_lt y x
relation rel.Ge x y = int_le y x

-- whether a test holds, where numbers have these values
abbrev pub holds_by : (CExpr → Result ℤ Trouble) → CTest → Result Bool Trouble
holds_by value test = do
  x ← value test.left
  y ← value test.right
  Ok (relation test.op x y)

-- the value of one side alone
abbrev pub side : (CExpr → Result ℤ Trouble) → CExpr → CExpr → Bool → Result ℤ Trouble
side value a b true = value a
side value a b false = value b

-- a number, where its parts have these values
abbrev pub value_by : (CExpr → Result ℤ Trouble) → CProgram → List Cells → CExpr-F CExpr CStep CPlace CTest → Result ℤ Trouble
value_by value program globals (Number n) = Ok n
value_by value program globals (Read place) = do
  spot ← spot_by value program place
  cells ← cells_at globals spot
  or_else (number_in cells) Value
value_by value program globals (Minus e) = do
  x ← value e
  negative_of in_64_bits x
value_by value program globals (Op o a b) = do
  x ← value a
  y ← value b
  operation o x y
value_by value program globals (Pick test a b) = do
  taken ← holds_by value test
  side value a b taken

-- the same, going down at most so many times
abbrev pub value_within : ℕ → CProgram → List Cells → CExpr → Result ℤ Trouble
value_within zero program globals e = Err Value
value_within (suc depth) program globals e = value_by (value_within depth program globals) program globals (out-CExpr e)

-- the value of an expression
unfoldable pub value_of : CProgram → List Cells → CExpr → Result ℤ Trouble
value_of program globals e = value_within (size-CExpr e) program globals e

abbrev pub spot_of : CProgram → List Cells → CPlace → Result Spot Trouble
spot_of program globals place = spot_by (value_of program globals) program place

abbrev pub holds : CProgram → List Cells → CTest → Result Bool Trouble
holds program globals test = holds_by (value_of program globals) test

-- what is assigned: the cells of a place, which may be a struct, or a number
abbrev pub assigned : CProgram → List Cells → CExpr → CExpr-F CExpr CStep CPlace CTest → Result Cells Trouble
assigned program globals e (Read place) = do
  spot ← spot_of program globals place
  cells_at globals spot
assigned program globals e shape = do
  z ← value_of program globals e
  Ok (Cell z)

-- the statement is this label
abbrev pub is_label : List ℕ → CStmt → Bool
is_label name (Label other) = bytes_eq name other.bytes
is_label name statement = false

-- the place of a label in a body
abbrev pub label_in : List ℕ → List CStmt → Option ℕ
label_in name [] = None
label_in name (statement ∷ body) =
    if is_label name statement then Some 0 else option_map (λ k. k + 1) (label_in name body)

-- goes on at a label
abbrev pub gone : {E : Type 0} → List CStmt → List Cells → Frame → List Frame → List ℕ → Ran E
gone body globals frame callers label =
    with_value (or_else (label_in label body) Value) (λ place. quiet (Running globals (jumped frame place) callers))

-- the label of the case that has the value, or else the last one
abbrev pub case_of : ℤ → List CCase → List ℕ → List ℕ
case_of z [] otherwise = otherwise
case_of z (c ∷ cases) otherwise = if is_same z c.value then c.label.bytes else case_of z cases otherwise

-- a call shows an event, where it is one, and else calls the function of that name
abbrev pub call : {E : Type 0} → (List ℕ → List Cells → Option E) → CProgram → List Cells → Frame → List Frame → List ℕ → Ran E
call shows program globals frame callers name =
    if is_in name (event_names program) then showing (shows name globals) globals frame callers
    else with_value (or_else (place_in name (function_names program)) Value) (called globals frame callers)

-- one statement of a body, where shows is what an event shows of the globals
abbrev pub act : {E : Type 0} → (List ℕ → List Cells → Option E) → CProgram → List CStmt → List Cells → Frame → List Frame → CStmt → Ran E
act shows program body globals frame callers (Assign place e) =
    with_value (spot_of program globals place) (λ spot.
    with_value (assigned program globals e (out-CExpr e)) (λ cells.
    quiet (Running (put globals spot cells) (onward frame) callers)))
act shows program body globals frame callers (IfGoto test label) =
    with_value (holds program globals test) (λ b.
    if b then gone body globals frame callers label.bytes else quiet (Running globals (onward frame) callers))
act shows program body globals frame callers (Goto label) = gone body globals frame callers label.bytes
act shows program body globals frame callers (Label label) = quiet (Running globals (onward frame) callers)
act shows program body globals frame callers (Switch e cases otherwise) =
    with_value (value_of program globals e) (λ z.
    gone body globals frame callers (case_of z cases otherwise.bytes))
act shows program body globals frame callers (Call name) = call shows program globals frame callers name.bytes
act shows program body globals frame callers Return = returned globals callers

-- the statement at a place, or the end of the function
abbrev pub fetched : {E : Type 0} → (List ℕ → List Cells → Option E) → CProgram → List CStmt → List Cells → Frame → List Frame → Option CStmt → Ran E
fetched shows program body globals frame callers None = returned globals callers
fetched shows program body globals frame callers (Some statement) =
    act shows program body globals frame callers statement

-- one step; a run that is over or broken stays
abbrev pub cstep : {E : Type 0} → (List ℕ → List Cells → Option E) → CProgram → Config → Ran E
cstep shows program (Running globals frame callers) =
    with_value (or_else (slice_get program.functions frame.function) Value) (λ f.
    fetched shows program f.body globals frame callers (slice_get f.body frame.place))
cstep shows program (Over globals) = quiet (Over globals)
cstep shows program (Broken trouble) = quiet (Broken trouble)
