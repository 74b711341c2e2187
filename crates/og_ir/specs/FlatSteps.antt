-- What flat code does, one instruction at a time. The end of a function is a step too, as Back. The numbers that there are
-- are a test: with all numbers nothing overflows, and with those of 64 bits code that never breaks can be printed as C. A
-- place's selectors, and the operands of an operation, are computed from left to right, a target before what is put there.
use Rattle.std.specs.Prelude.{ℕ, zero, suc, ℤ, pos, List, [], ◌∷◌, Bool, not, if◌then◌else◌, Option, Some, None, Result, Ok, Err, int_le, int_lt, slice_get, map}
use Rattle.og_types.specs.declared.Sort.{Sort}
use Rattle.og_ir.specs.declared.Ir.{Ir}
use Rattle.og_ir.specs.declared.SlotSort.{SlotSort}
use Rattle.og_ir.specs.declared.SlotSort.TheVariants as slot_sort
use Rattle.og_ir.specs.declared.Instr.{Instr}
use Rattle.og_ir.specs.declared.Instr.TheVariants as instr
use Rattle.og_ir.specs.declared.Slot.{Slot}
use Rattle.og_ir.specs.declared.Step2.{Step2}
use Rattle.og_ir.specs.declared.Step2.TheVariants as step
use Rattle.og_ir.specs.declared.Flat.{Flat, out-Flat, size-Flat}
use Rattle.og_ir.specs.declared.Flat.TheOpen as flat
use Rattle.og_ir.specs.declared.Flat.TheOpen.{Flat-F}
use Rattle.og_ir.specs.declared.FlatOp.{FlatOp}
use Rattle.og_ir.specs.declared.FlatOp.TheVariants as op
use Rattle.og_ir.specs.declared.FlatRel.{FlatRel}
use Rattle.og_ir.specs.declared.FlatRel.TheVariants as rel
use Rattle.og_ir.specs.declared.Test.{Test}
use Rattle.og_ir.specs.declared.Case.{Case}
use Rattle.og_ir.specs.Cells.{Cells, Cell, number_in, part, part_at, put_at, global, change_global}
use Rattle.og_ir.specs.Reading.{natural, blank}
use Rattle.og_ir.specs.Arithmetic.{Trouble, Index, ◌>>=◌, or_else, sum_of, difference_of, product_of, quotient_of, remainder_of, is_same}
use Rattle.og_ir.specs.Steps.{Frame, Config, Running, Over, Broken, Ran, quiet, with_value, onward, jumped, returned, called, showing}

-- A slot, and the path to a part of it.
pub record Spot : Type 0 where
  pub base : ℕ
  pub path : List ℕ

-- the path, where each selector leads to a part
abbrev pub walk : (Flat → Result ℤ Trouble) → List Step2 → Cells → Result (List ℕ) Trouble
walk value [] cells = Ok []
walk value (step.Field k ∷ steps) cells = do
  inner ← or_else (part k cells) Index
  path ← walk value steps inner
  Ok (k ∷ path)
walk value (step.Index e ∷ steps) cells = do
  z ← value e
  k ← or_else (natural z) Index
  inner ← or_else (part k cells) Index
  path ← walk value steps inner
  Ok (k ∷ path)

abbrev pub spot_of : (Flat → Result ℤ Trouble) → List Cells → Slot → Result Spot Trouble
spot_of value slots slot = do
  cells ← or_else (global slot.base slots) Index
  path ← walk value slot.path cells
  Ok (record { base = slot.base; path = path })

-- what stands there
abbrev pub cells_at : List Cells → Spot → Result Cells Trouble
cells_at slots spot = do
  cells ← or_else (global spot.base slots) Index
  or_else (part_at spot.path cells) Index

-- puts cells there
abbrev pub put : List Cells → Spot → Cells → List Cells
put slots spot new = change_global spot.base (put_at spot.path new) slots

abbrev pub operation : (ℤ → Bool) → FlatOp → ℤ → ℤ → Result ℤ Trouble
operation is_there op.Add = sum_of is_there
operation is_there op.Sub = difference_of is_there
operation is_there op.Mul = product_of is_there
operation is_there op.Div = quotient_of is_there
operation is_there op.Rem = remainder_of is_there

abbrev pub relation : FlatRel → ℤ → ℤ → Bool
relation rel.Eq x y = is_same x y
relation rel.Ne x y = not (is_same x y)
relation rel.Lt x y = int_lt x y
relation rel.Le x y = int_le x y
relation rel.Gt x y = int_lt y x
relation rel.Ge x y = int_le y x

-- a number, where its parts have these
abbrev pub value_by : (Flat → Result ℤ Trouble) → (ℤ → Bool) → List Cells → Flat-F Flat Step2 Slot → Result ℤ Trouble
value_by value is_there slots (flat.Number n) = Ok n
value_by value is_there slots (flat.Read slot) = do
  spot ← spot_of value slots slot
  cells ← cells_at slots spot
  or_else (number_in cells) Index
value_by value is_there slots (flat.Op o a b) = do
  x ← value a
  y ← value b
  operation is_there o x y

-- the same, going down at most so many times
abbrev pub value_within : ℕ → (ℤ → Bool) → List Cells → Flat → Result ℤ Trouble
value_within zero is_there slots e = Err Index
value_within (suc depth) is_there slots e = value_by (value_within depth is_there slots) is_there slots (out-Flat e)

-- the number that is computed
unfoldable pub value_of : (ℤ → Bool) → List Cells → Flat → Result ℤ Trouble
value_of is_there slots e = value_within (size-Flat e) is_there slots e

abbrev pub holds : (ℤ → Bool) → List Cells → Test → Result Bool Trouble
holds is_there slots test = do
  x ← value_of is_there slots test.left
  y ← value_of is_there slots test.right
  Ok (relation test.op x y)

-- the place of the case that has the value, or else the last one
abbrev pub case_of : ℤ → List Case → ℕ → ℕ
case_of z [] otherwise = otherwise
case_of z (c ∷ cases) otherwise = if is_same z c.value then c.to else case_of z cases otherwise

-- one instruction, where shows is what an event shows of the slots
abbrev pub act : {E : Type 0} → (ℕ → List Cells → Option E) → (ℤ → Bool) → List Cells → Frame → List Frame → Instr → Ran E
act shows is_there slots frame callers (instr.Set slot e) =
    with_value (spot_of (value_of is_there slots) slots slot) (λ spot.
    with_value (value_of is_there slots e) (λ z. quiet (Running (put slots spot (Cell z)) (onward frame) callers)))
act shows is_there slots frame callers (instr.Copy to from) =
    with_value (spot_of (value_of is_there slots) slots to) (λ spot.
    with_value (spot_of (value_of is_there slots) slots from >>= cells_at slots) (λ cells.
    quiet (Running (put slots spot cells) (onward frame) callers)))
act shows is_there slots frame callers (instr.Branch test place) =
    with_value (holds is_there slots test) (λ b.
    quiet (Running slots (if b then jumped frame place else onward frame) callers))
act shows is_there slots frame callers (instr.Goto place) = quiet (Running slots (jumped frame place) callers)
act shows is_there slots frame callers (instr.Table e cases otherwise) =
    with_value (value_of is_there slots e) (λ z. quiet (Running slots (jumped frame (case_of z cases otherwise)) callers))
act shows is_there slots frame callers (instr.Call function) = called slots frame callers function
act shows is_there slots frame callers (instr.Emit event) = showing (shows event slots) slots frame callers
act shows is_there slots frame callers instr.Back = returned slots callers

-- the instruction at a place, or the end of the code
abbrev pub fetched : {E : Type 0} → (ℕ → List Cells → Option E) → (ℤ → Bool) → List Cells → Frame → List Frame → Option Instr → Ran E
fetched shows is_there slots frame callers None = returned slots callers
fetched shows is_there slots frame callers (Some i) = act shows is_there slots frame callers i

-- one step; a run that is over or broken stays
abbrev pub flat_step : {E : Type 0} → (ℕ → List Cells → Option E) → (ℤ → Bool) → Ir → Config → Ran E
flat_step shows is_there ir (Running slots frame callers) =
    with_value (or_else (slice_get ir.functions frame.function) Index) (λ f.
    fetched shows is_there slots frame callers (slice_get f.code frame.place))
flat_step shows is_there ir (Over slots) = quiet (Over slots)
flat_step shows is_there ir (Broken trouble) = quiet (Broken trouble)

-- the cells of a slot, each of them 0
abbrev pub blank_slot : List Sort → SlotSort → Cells
blank_slot sorts slot_sort.Cell = Cell (pos 0)
blank_slot sorts (slot_sort.Shaped t) = blank sorts t

-- the slots before the first step
abbrev pub first_slots : List Sort → Ir → List Cells
first_slots sorts ir = map (λ slot. blank_slot sorts slot.sort) ir.slots
