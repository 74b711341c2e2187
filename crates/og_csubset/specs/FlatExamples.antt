-- Flat code over a small model, with what it shows, worked out by hand.
use Rattle.std.specs.Prelude.{◌≡◌, ℕ, zero, suc, ◌-◌, ◌^◌, ℤ, pos, List, [], ◌∷◌, map, codes}
use Rattle.og_types.specs.declared.Value.TheVariants as value
use Rattle.og_model.specs.declared.StuckRule.TheVariants as stuck
use Rattle.og_model.specs.Shown.{Shown, Past, Stuck}
use Rattle.og_ir.specs.declared.Ir.{Ir}
use Rattle.og_ir.specs.declared.SlotDef.{SlotDef}
use Rattle.og_ir.specs.declared.SlotSort.TheVariants as slot_sort
use Rattle.og_ir.specs.declared.FlatFn.{FlatFn}
use Rattle.og_ir.specs.declared.Instr.{Instr}
use Rattle.og_ir.specs.declared.Instr.TheVariants.{Set, Copy, Branch, Table, Call, Emit, Back}
use Rattle.og_ir.specs.declared.Slot.{Slot}
use Rattle.og_ir.specs.declared.Step2.TheVariants as step
use Rattle.og_ir.specs.declared.Flat.{Flat, roll-Flat}
use Rattle.og_ir.specs.declared.Flat.TheOpen as flat_shape
use Rattle.og_ir.specs.declared.FlatOp.{FlatOp}
use Rattle.og_ir.specs.declared.FlatOp.TheVariants as op
use Rattle.og_ir.specs.declared.FlatRel.TheVariants as rel
use Rattle.og_csubset.specs.Examples.{word, type, with_variables, go, shows, at_rest, num}
use Rattle.og_csubset.specs.FlatRun.{flat, flat_in_64_bits}
use Rattle.og_csubset.specs.Paced.{paced}
use Rattle.og_csubset.specs.Fair.{Fair}
use Rattle.og_csubset.specs.FlatText.{nesting_of_instruction}

abbrev pub cell : List ℕ → SlotDef
cell name = record { name = word name; sort = slot_sort.Cell }

-- a slot of the second type, a sequence of at most two numbers
abbrev pub items : List ℕ → SlotDef
items name = record { name = word name; sort = slot_sort.Shaped (type 1) }

-- r, stopped, f_kind, f_file, f_line, f_column, then v_x, v_l, o_num__1 and a temporary
abbrev pub slots : List SlotDef
slots =
    cell (codes "r") ∷ cell (codes "stopped") ∷ cell (codes "f_kind") ∷ cell (codes "f_file") ∷ cell (codes "f_line")
    ∷ cell (codes "f_column") ∷ cell (codes "v_x") ∷ items (codes "v_l") ∷ cell (codes "o_num__1") ∷ items (codes "w") ∷ []

abbrev pub x : Slot
x = record { base = 6; path = [] }

abbrev pub l : Slot
l = record { base = 7; path = [] }

abbrev pub output : Slot
output = record { base = 8; path = [] }

abbrev pub w : Slot
w = record { base = 9; path = [] }

abbrev pub number : ℤ → Flat
number n = roll-Flat (flat_shape.Number n)

abbrev pub int : ℕ → Flat
int n = number (pos n)

abbrev pub read : Slot → Flat
read slot = roll-Flat (flat_shape.Read slot)

abbrev pub operates : FlatOp → Flat → Flat → Flat
operates o a b = roll-Flat (flat_shape.Op o a b)

-- the length of w, and an item of it
abbrev pub length_of_w : Slot
length_of_w = record { base = 9; path = step.Field 0 ∷ [] }

abbrev pub item_of_w : Flat → Slot
item_of_w e = record { base = 9; path = step.Field 1 ∷ step.Index e ∷ [] }

abbrev pub function : List ℕ → List Instr → FlatFn
function name code = record { name = word name; code = code; labels = map (λ i. word []) code }

-- code for the start, and a function after that of go
abbrev pub code : List Instr → List Instr → Ir
code start on_go = record {
  slots = slots;
  events = word (codes "o_go") ∷ word (codes "o_num") ∷ [];
  functions =
      function (codes "two") (Set output (int 2) ∷ Emit 1 ∷ [])
      ∷ function (codes "start") start ∷ function (codes "on_go") on_go ∷ [];
}

abbrev pub start_of : List Instr → List Shown
start_of start = flat (code start []) with_variables [] 20

abbrev pub greatest : Flat
greatest = int (2 ^ 63 - 1)

-- x is set to 2^63 - 1 and 1 less 2^63 - 1
abbrev pub leaves_64_bits : List Instr
leaves_64_bits = Set x (operates op.Sub (operates op.Add greatest (int 1)) greatest) ∷ []

abbrev pub NumbersAreUnbounded : Type 0
NumbersAreUnbounded = start_of leaves_64_bits ≡ shows [] (at_rest 1 []) ∷ []

abbrev pub NumbersOf64Bits : Type 0
NumbersOf64Bits = flat_in_64_bits (code leaves_64_bits []) with_variables [] 20 ≡ shows [] (Stuck stuck.Overflow) ∷ []

abbrev pub IndexIsOutside : Type 0
IndexIsOutside = start_of (Set (item_of_w (int 2)) (int 0) ∷ []) ≡ shows [] (Stuck stuck.Index) ∷ []

abbrev pub DivisorIsZero : Type 0
DivisorIsZero = start_of (Set x (operates op.Div (int 1) (read x)) ∷ []) ≡ shows [] (Stuck stuck.Divide) ∷ []

-- the temporary becomes { 4, 5 }, and is copied into l
abbrev pub CopiesItems : Type 0
CopiesItems =
    start_of
    (Set length_of_w (int 2) ∷ Set (item_of_w (int 0)) (int 4)
    ∷ Set (item_of_w (operates op.Sub (read length_of_w) (int 1))) (int 5) ∷ Copy l w ∷ [])
    ≡ shows [] (at_rest 0 (value.Int (pos 4) ∷ value.Int (pos 5) ∷ [])) ∷ []

-- two is called twice; it shows an event
abbrev pub CallsTwice : Type 0
CallsTwice = start_of (Call 0 ∷ Call 0 ∷ []) ≡ shows (num 2 ∷ num 2 ∷ []) (at_rest 0 []) ∷ []

-- a call is one step; the first event is the third, and the end of the function the fourth
abbrev pub CutInACall : Type 0
CutInACall = flat (code (Call 0 ∷ Call 0 ∷ []) []) with_variables [] 4 ≡ shows (num 2 ∷ []) Past ∷ []

-- with two statements for each instruction the first event is shown by the sixth
abbrev pub at_half_speed : ℕ → List Shown
at_half_speed statements = paced (λ function place. 2) (code (Call 0 ∷ Call 0 ∷ []) []) with_variables [] statements

abbrev pub NotYetShown : Type 0
NotYetShown = at_half_speed 5 ≡ shows [] Past ∷ []

abbrev pub ShownByTheSixth : Type 0
ShownByTheSixth = at_half_speed 6 ≡ shows (num 2 ∷ []) Past ∷ []

-- a table over x, whose last place is for all other numbers
abbrev pub chooses : ℕ → List Instr
chooses n =
    Set x (int n)
    ∷ Table (read x) (record { value = pos 1; to = 2 } ∷ record { value = pos 2; to = 4 } ∷ []) 6
    ∷ Set x (int 1) ∷ Back ∷ Set x (int 8) ∷ Back ∷ Set x (int 9) ∷ Back ∷ []

abbrev pub TableTakesACase : Type 0
TableTakesACase = start_of (chooses 2) ≡ shows [] (at_rest 8 []) ∷ []

abbrev pub TableTakesTheLast : Type 0
TableTakesTheLast = start_of (chooses 3) ≡ shows [] (at_rest 9 []) ∷ []

-- x counts to 3; then go sets it to 10, which x has not
abbrev pub counting : Ir
counting =
    code
    (Set x (operates op.Add (read x) (int 1)) ∷ Branch (record { op = rel.Lt; left = read x; right = int 3 }) 0 ∷ Back ∷ [])
    (Set x (int 10) ∷ [])

abbrev pub CountsAndLeavesItsType : Type 0
CountsAndLeavesItsType =
    flat counting with_variables (go ∷ go ∷ []) 20
    ≡ shows [] (at_rest 3 []) ∷ shows [] (Stuck stuck.Value) ∷ []

-- the code can be printed
abbrev pub CountingIsFair : Type 0
CountingIsFair = Fair counting with_variables

-- a one, and so many more ones that are added, each on the right
abbrev pub ones : ℕ → Flat
ones zero = int 1
ones (suc n) = operates op.Add (ones n) (int 1)

-- a sum of forty numbers nests 41 deep: the brace of the function, 39 operators to the end of the statement, and the bracket
-- of the last literal
abbrev pub SumOfFortyNests : Type 0
SumOfFortyNests = nesting_of_instruction counting (Set x (ones 39)) ≡ 41
