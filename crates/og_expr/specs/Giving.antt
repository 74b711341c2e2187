-- What it is that code gives the value of an expression (Z.101 section 12.3), as the meaning says it, or its fault.
-- From slots that hold the values of the variables the code goes onward, from each place to a later one, to its end,
-- where its operand has the number of the value; or it leads to the place for faults, and the kind of the fault is
-- told. It changes no slot but the temporaries from its level on, and the slot of the fault's kind where there is a
-- fault.
use Rattle.std.specs.Prelude.{◌≡◌, ℕ, zero, suc, ◌+◌, ◌<◌, ◌≤◌, true, List, [], ◌∷◌, length, slice_get, Option, Some, Result, Ok, Err}
use Rattle.og_types.specs.declared.TypeId.{TypeId}
use Rattle.og_types.specs.declared.Value.{Value}
use Rattle.og_types.specs.Table.{is_table}
use Rattle.og_model.specs.declared.VarId.{VarId}
use Rattle.og_model.specs.declared.FaultKind.{FaultKind}
use Rattle.og_model.specs.declared.Expr.{Expr}
use Rattle.og_model.specs.Expressions.{Frame, Store, location_of, read, number_of, eval}
use Rattle.og_model.specs.WellSorted.{sort_of_variable, is_expression}
use Rattle.og_ir.specs.declared.Instr.{Instr}
use Rattle.og_ir.specs.declared.Ir.{Ir}
use Rattle.og_ir.specs.declared.FlatFn.{FlatFn}
use Rattle.og_ir.specs.Cells.{Cells, Cell, global}
use Rattle.og_ir.specs.Arithmetic.{in_64_bits}
use Rattle.og_ir.specs.FlatSteps.{value_of, flat_step}
use Rattle.og_ir.specs.Steps as Steps
use Rattle.og_ir.specs.Steps.{Running, Ran, quiet}
use Rattle.og_ir.specs.Reading.{value_in}
use Rattle.og_ranges.specs.Ranges.{range_of}
use Rattle.og_expr.specs.declared.Lowered.{Lowered}
use Rattle.og_expr.specs.Lowering.{Around, slot_of, flat_of, kind_number, lowered, is_simple}

-- ---- code that goes onward

-- The function in which the code stands, what its events show, and who called it.
pub record Where (E : Type 0) : Type 0 where
  pub shows : ℕ → List Cells → Option E
  pub ir : Ir
  pub function : ℕ
  pub callers : List Steps.Frame

abbrev pub at_place : {E : Type 0} → Where E → List Cells → ℕ → Steps.Config
at_place w slots place = Running slots (record { function = w.function; place = place }) w.callers

-- one instruction leads from slots and a place to others, and shows nothing
abbrev pub Leads : {E : Type 0} → Where E → List Cells → ℕ → List Cells → ℕ → Type 0
Leads w slots place slots' place' =
    flat_step w.shows in_64_bits w.ir (at_place w slots place) ≡ quiet (at_place w slots' place')

-- so many instructions do, each of them to a later place
abbrev pub Onward : {E : Type 0} → Where E → ℕ → List Cells → ℕ → List Cells → ℕ → Type 0
Onward w zero slots place slots' place' = (slots ≡ slots') × (place ≡ place')
Onward w (suc n) slots place slots' place' =
    (next : List Cells) × (p : ℕ) × Leads w slots place next p × (place < p) × Onward w n next p slots' place'

-- the instructions stand at a place, one after the other
abbrev pub StandsAt : List Instr → ℕ → List Instr → Type 0
StandsAt code place [] = Unit {0}
StandsAt code place (i ∷ is) = (slice_get code place ≡ Some i) × StandsAt code (place + 1) is

-- in the function
pub record IsCode {E : Type 0} (w : Where E) (place : ℕ) (is : List Instr) : Type 0 where
  pub function : FlatFn
  pub there : slice_get w.ir.functions w.function ≡ Some function
  pub stands : StandsAt function.code place is

-- ---- slots

-- the slot is none of the temporaries from a level on, as far as there are any
abbrev pub IsNoTemporary : Around → ℕ → ℕ → ℕ → Type 0
IsNoTemporary a level room k = (m : ℕ) → level ≤ m → m < room → a.temps m ≡ k → ⊥

-- no other slot is changed
pub record Kept (a : Around) (level room : ℕ) (before after : List Cells) : Type 0 where
  pub length : length after ≡ length before
  pub others : (k : ℕ) → IsNoTemporary a level room k → global k after ≡ global k before

-- but for that of the fault's kind
pub record KeptButKind (a : Around) (level room : ℕ) (before after : List Cells) : Type 0 where
  pub length : length after ≡ length before
  pub others : (k : ℕ) → (k ≡ a.kind → ⊥) → IsNoTemporary a level room k → global k after ≡ global k before

-- the slot is there, and its cells hold a value of a type
pub record HoldsValue (a : Around) (slots : List Cells) (k : ℕ) (id : TypeId) (v : Value) : Type 0 where
  pub cells : Cells
  pub there : global k slots ≡ Some cells
  pub holds : value_in a.declared.types id cells ≡ Some v

-- each variable has a slot that holds its value
pub record VariablesStand (a : Around) (b : Frame) (s : Store) (slots : List Cells) : Type 0 where
  pub each : (x : VarId) (id : TypeId) → sort_of_variable a.declared x ≡ Some id
      → HoldsValue a slots (slot_of a x) id (read s (location_of b x))

-- there are so many temporaries, none of them twice, and none of them a variable; and there is a slot for the fault's
-- kind
pub record HasRoom (a : Around) (room : ℕ) (slots : List Cells) : Type 0 where
  pub there : (m : ℕ) → m < room → a.temps m < length slots
  pub differ : (m n : ℕ) → m < room → n < room → a.temps m ≡ a.temps n → m ≡ n
  pub no_variable : (x : VarId) (id : TypeId) (m : ℕ) → sort_of_variable a.declared x ≡ Some id → m < room → a.temps m ≡ slot_of a x → ⊥
  pub kind : a.kind < length slots

-- ---- what code gives

-- the code comes to its end, where its operand has the number of the value
pub record GivesValue {E : Type 0} (w : Where E) (a : Around) (level room at : ℕ) (x : Lowered) (before : List Cells) (v : Value) : Type 0 where
  pub steps : ℕ
  pub after : List Cells
  pub onward : Onward w steps before at after (at + length x.code)
  pub kept : Kept a level room before after
  pub number : value_of in_64_bits after (flat_of a level x.value) ≡ Ok (number_of v)

-- the code leads from one of its places to where faults lead, and the kind is told
pub record GivesFault {E : Type 0} (w : Where E) (a : Around) (level room at : ℕ) (x : Lowered) (before : List Cells) (kind : FaultKind) : Type 0 where
  pub steps : ℕ
  pub place : ℕ
  pub after : List Cells
  pub onward : Onward w steps before at after place
  pub inside : place < at + length x.code
  pub leaves : Leads w after place after a.fault
  pub kept : KeptButKind a level room before after
  pub told : global a.kind after ≡ Some (Cell (kind_number kind))

abbrev pub Gives : {E : Type 0} → Where E → Around → (level room at : ℕ) → Lowered → List Cells → Result Value FaultKind → Type 0
Gives w a level room at x before (Ok v) = GivesValue w a level room at x before v
Gives w a level room at x before (Err kind) = GivesFault w a level room at x before kind

-- The code of an expression that is built right and violates neither G1 nor G5, wherever it stands, gives the value
-- or the fault of the expression from every store that stands in the slots.
abbrev pub ExpressionsAreLowered : Type 0 → Type 0
ExpressionsAreLowered E =
    (w : Where E) (a : Around) (b : Frame) (s : Store) (slots : List Cells) (level room at : ℕ) (e : Expr)
    → is_table a.declared.types ≡ true → is_expression a.declared e ≡ true → (range_of a.declared e).violations ≡ []
    → is_simple a.declared e ≡ true → VariablesStand a b s slots → HasRoom a room slots
    → (lowered a level at e).temps ≤ room → IsCode w at (lowered a level at e).code
    → Gives w a level room at (lowered a level at e) slots (eval b s e)
