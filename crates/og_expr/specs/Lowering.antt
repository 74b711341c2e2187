-- The code of an expression (Z.101 sections 12.2 and 12.3), as a function of the expression. Code of operands comes
-- from left to right, with a jump at each fault: so the first fault in this order is the one that is met. The left
-- operand of a binary operator stands in the temporary of its level, and the right one is a literal, a variable, or
-- stands in the temporary of the next level. Truth values are 0 and 1. What the interval of a number answers is not
-- tested again. Two literals never meet in one operation, since one of them is in a temporary: so no compiler sees a
-- constant that divides by 0 or that is compared with itself. So far only expressions over whole variables of one
-- cell have code.
use Rattle.std.specs.Prelude.{ℕ, zero, suc, ◌+◌, ℤ, pos, neg_ℤ, int_lt, int_le, Bool, true, false, ◌&&◌, cond, List, [], ◌∷◌, ◌++◌, length, max, get_or, Option, Some, None}
use Rattle.og_types.specs.declared.Sort.{Sort}
use Rattle.og_types.specs.declared.Sort.TheVariants as Sorts
use Rattle.og_types.specs.Table.{is_empty}
use Rattle.og_model.specs.declared.VarId.{VarId}
use Rattle.og_model.specs.declared.VarId.TheVariants.{Process, Local}
use Rattle.og_model.specs.declared.FaultKind.{FaultKind}
use Rattle.og_model.specs.declared.FaultKind.TheVariants as Fault
use Rattle.og_model.specs.declared.UnaryOp.{UnaryOp}
use Rattle.og_model.specs.declared.UnaryOp.TheVariants.{Minus, Not}
use Rattle.og_model.specs.declared.BinaryOp.{BinaryOp}
use Rattle.og_model.specs.declared.BinaryOp.TheVariants as Ops
use Rattle.og_model.specs.declared.Target.{Target}
use Rattle.og_model.specs.declared.Select.{Select}
use Rattle.og_model.specs.declared.Expr.{Expr}
use Rattle.og_model.specs.declared.Node.{Node, Node-F, out-Node}
use Rattle.og_model.specs.declared.Node.TheOpen as Nodes
use Rattle.og_model.specs.WellSorted.{Data}
use Rattle.og_ir.specs.declared.Instr.{Instr}
use Rattle.og_ir.specs.declared.Instr.TheVariants as instr
use Rattle.og_ir.specs.declared.Slot.{Slot}
use Rattle.og_ir.specs.declared.Flat.{Flat, roll-Flat}
use Rattle.og_ir.specs.declared.Flat.TheOpen as flat
use Rattle.og_ir.specs.declared.FlatOp.{FlatOp}
use Rattle.og_ir.specs.declared.FlatOp.TheVariants as op
use Rattle.og_ir.specs.declared.FlatRel.{FlatRel}
use Rattle.og_ir.specs.declared.FlatRel.TheVariants as rel
use Rattle.og_ir.specs.Arithmetic.{in_64_bits}
use Rattle.og_ranges.specs.declared.Interval.{Interval}
use Rattle.og_ranges.specs.Ranges.{range_of, sort_of_target}
use Rattle.og_ranges.specs.Calls.{interval_if}
use Rattle.og_expr.specs.declared.Operand.{Operand}
use Rattle.og_expr.specs.declared.Operand.TheVariants.{Literal, Variable, Temporary}
use Rattle.og_expr.specs.declared.Lowered.{Lowered}

-- what the code stands among: the slots of the variables, the temporary of each level, the slot of a fault's kind,
-- and the place where a fault leads
pub record Around : Type 0 where
  pub declared : Data
  pub variables : List ℕ
  pub locals : List ℕ
  pub temps : ℕ → ℕ
  pub kind : ℕ
  pub fault : ℕ

-- ---- instructions

abbrev pub slot : ℕ → Slot
slot base = record { base = base; path = [] }

abbrev pub number : ℤ → Flat
number z = roll-Flat (flat.Number z)

abbrev pub read : ℕ → Flat
read base = roll-Flat (flat.Read (slot base))

abbrev pub operation : FlatOp → Flat → Flat → Flat
operation o a b = roll-Flat (flat.Op o a b)

abbrev pub set : ℕ → Flat → Instr
set base e = instr.Set (slot base) e

-- goes to a place where the number in a slot is so related to another
abbrev pub branch : FlatRel → ℕ → Flat → ℕ → Instr
branch r base e to = instr.Branch (record { op = r; left = read base; right = e }) to

-- ---- operands

-- a number outside 64 bits, which no expression without a violation has, has 0 in its place
abbrev pub literal : ℤ → Operand
literal z = Literal (cond (in_64_bits z) z (pos 0))

abbrev pub flat_of : Around → ℕ → Operand → Flat
flat_of a level (Literal z) = number z
flat_of a level (Variable k) = read k
flat_of a level Temporary = read (a.temps level)

-- no code
abbrev pub plain : Operand → Lowered
plain o = record { code = []; value = o; temps = 0 }

-- code after which the value is in the temporary of its level
abbrev pub in_temporary : ℕ → List Instr → ℕ → Lowered
in_temporary level code temps = record { code = code; value = Temporary; temps = max (suc level) temps }

-- puts an operand into the temporary of its level, if it is not there
abbrev pub settle : Around → ℕ → Operand → List Instr
settle a level (Literal z) = set (a.temps level) (number z) ∷ []
settle a level (Variable k) = set (a.temps level) (read k) ∷ []
settle a level Temporary = []

abbrev pub settled : Around → ℕ → Lowered → Lowered
settled a level x = in_temporary level (x.code ++ settle a level x.value) x.temps

-- ---- faults and intervals

-- the number that tells a fault
abbrev pub kind_number : FaultKind → ℤ
kind_number Fault.Range = pos 1
kind_number Fault.Index = pos 2
kind_number Fault.Division = pos 3
kind_number Fault.Alternative = pos 4
kind_number Fault.Size = pos 5

-- tells a fault unless the number in a slot is so related to 0; this stands at a place
abbrev pub guard : Around → ℕ → FlatRel → ℕ → FaultKind → List Instr
guard a at r base kind =
    branch r base (number (pos 0)) (at + 3) ∷ set a.kind (number (kind_number kind)) ∷ instr.Goto a.fault ∷ []

-- a number of the interval may be 0
abbrev pub may_be_zero : Option Interval → Bool
may_be_zero (Some i) = int_le i.lo (pos 0) && int_le (pos 0) i.hi
may_be_zero None = true

abbrev pub may_be_negative : Option Interval → Bool
may_be_negative (Some i) = int_lt i.lo (pos 0)
may_be_negative None = true

-- a divisor, whose code stands at a place: it is tested where it may be 0
abbrev pub divisor : Around → ℕ → ℕ → Bool → Lowered → Lowered
divisor a level at tested y =
    cond tested (let x = settled a level y in
    in_temporary level (x.code ++ guard a (at + length x.code) rel.Ne (a.temps level) Fault.Division) x.temps) y

-- ---- operators

-- the temporary of a level has the result of an operation with it
abbrev pub changed : Around → ℕ → FlatOp → Flat → List Instr
changed a level o right = set (a.temps level) (operation o (read (a.temps level)) right) ∷ []

-- sets the temporary to whether it is so related to a number; this stands at a place
abbrev pub compared : Around → ℕ → ℕ → FlatRel → Flat → List Instr
compared a level at r right =
    branch r (a.temps level) right (at + 3) ∷ set (a.temps level) (number (pos 0)) ∷ instr.Goto (at + 4)
    ∷ set (a.temps level) (number (pos 1)) ∷ []

-- the rest of a division is not negative, and below the divisor: where it is negative, the divisor is added
abbrev pub lifted : Around → ℕ → ℕ → Bool → Flat → List Instr
lifted a level at negative right =
    cond negative (branch rel.Ge (a.temps level) (number (pos 0)) (at + 2) ∷ changed a level op.Add right) []

-- the truth value that the left operand has where it is the answer is kept; this stands at a place, before so much code
abbrev pub kept_at : Around → ℕ → ℕ → FlatRel → ℕ → Instr
kept_at a level at r size = branch r (a.temps level) (number (pos 0)) (at + (size + 2))

-- What is done with two operands, where this stands at a place. `and` keeps a false left operand, and `or` a true one.
abbrev pub ending : Around → ℕ → ℕ → BinaryOp → Bool → Flat → List Instr
ending a level at Ops.Add negative right = changed a level op.Add right
ending a level at Ops.Sub negative right = changed a level op.Sub right
ending a level at Ops.Mul negative right = changed a level op.Mul right
ending a level at Ops.Div negative right = changed a level op.Div right
ending a level at Ops.Rem negative right = changed a level op.Rem right
ending a level at Ops.Mod negative right = changed a level op.Rem right ++ lifted a level (at + 1) negative right
ending a level at Ops.Eq negative right = compared a level at rel.Eq right
ending a level at Ops.Ne negative right = compared a level at rel.Ne right
ending a level at Ops.Lt negative right = compared a level at rel.Lt right
ending a level at Ops.Le negative right = compared a level at rel.Le right
ending a level at Ops.Gt negative right = compared a level at rel.Gt right
ending a level at Ops.Ge negative right = compared a level at rel.Ge right
ending a level at Ops.Xor negative right = compared a level at rel.Ne right
ending a level at Ops.And negative right = kept_at a level at rel.Eq 0 ∷ set (a.temps level) right ∷ []
ending a level at Ops.Or negative right = kept_at a level at rel.Ne 0 ∷ set (a.temps level) right ∷ []
ending a level at Ops.AndThen negative right = set (a.temps level) right ∷ []
ending a level at Ops.OrElse negative right = set (a.temps level) right ∷ []

-- what stands between the code of the left operand and that of the right one, of so much code
abbrev pub between : Around → ℕ → ℕ → BinaryOp → ℕ → List Instr
between a level at Ops.AndThen size = kept_at a level at rel.Eq size ∷ []
between a level at Ops.OrElse size = kept_at a level at rel.Ne size ∷ []
between a level at _ size = []

abbrev pub size_between : BinaryOp → ℕ
size_between Ops.AndThen = 1
size_between Ops.OrElse = 1
size_between _ = 0

abbrev pub is_division : BinaryOp → Bool
is_division Ops.Div = true
is_division Ops.Mod = true
is_division Ops.Rem = true
is_division _ = false

-- a divisor that may be 0
abbrev pub is_tested : BinaryOp → Option Interval → Bool
is_tested o right = is_division o && may_be_zero right

-- two operands under an operator, where the left one's code stands at a place
abbrev pub joined : Around → ℕ → ℕ → BinaryOp → Bool → Lowered → Lowered → Lowered
joined a level at o negative left right =
    let behind = at + length left.code in
    let before = between a level behind o (length right.code) in
    in_temporary level
    (((left.code ++ before) ++ right.code)
    ++ ending a level (behind + (size_between o + length right.code)) o negative (flat_of a (suc level) right.value))
    (max left.temps right.temps)

-- ---- expressions

abbrev pub Lowers : Type 0
Lowers = (level at : ℕ) → Expr → Lowered

abbrev pub slot_of : Around → VarId → ℕ
slot_of a (Process n) = get_or a.variables n 0
slot_of a (Local n) = get_or a.locals n 0

-- a number less the value
abbrev pub less : Around → ℕ → ℤ → Lowered → Lowered
less a level z x =
    in_temporary level (x.code ++ (set (a.temps level) (operation op.Sub (number z) (flat_of a level x.value)) ∷ [])) x.temps

abbrev pub negated : Around → ℕ → Lowered → Operand → Lowered
negated a level x (Literal z) = plain (literal (neg_ℤ z))
negated a level x (Variable k) = less a level (pos 0) x
negated a level x Temporary = less a level (pos 0) x

abbrev pub unary : Around → ℕ → UnaryOp → Lowered → Lowered
unary a level Minus x = negated a level x x.value
unary a level Not x = less a level (pos 1) x

-- where the right operand's code begins, where the left one's stands at a place
abbrev pub start_of : ℕ → BinaryOp → Lowered → ℕ
start_of at o left = at + (length left.code + size_between o)

-- two operands under an operator, where their intervals are these
abbrev pub operated : Around → ℕ → ℕ → BinaryOp → Option Interval → Option Interval → Lowered → Lowered → Lowered
operated a level at o i j left right =
    joined a level at o (may_be_negative i) left (divisor a (suc level) (start_of at o left) (is_tested o j) right)

abbrev pub binary : Lowers → (Expr → Option Interval) → Around → ℕ → ℕ → BinaryOp → Expr → Expr → Lowered
binary inner ranges a level at o x y =
    let left = settled a level (inner level at x) in
    operated a level at o (ranges x) (ranges y) left (inner (suc level) (start_of at o left) y)

-- code for a node at a place, where the temporaries below a level are held
abbrev pub lowered_node : Lowers → (Expr → Option Interval) → Around → ℕ → ℕ → Node-F Node Select Expr Target → Lowered
lowered_node inner ranges a level at (Nodes.Number z) = plain (literal z)
lowered_node inner ranges a level at (Nodes.Truth t) = plain (literal (cond t (pos 1) (pos 0)))
lowered_node inner ranges a level at (Nodes.Item k) = plain (literal (pos k))
lowered_node inner ranges a level at (Nodes.Get t) = plain (Variable (slot_of a t.variable))
lowered_node inner ranges a level at (Nodes.Unary o x) = unary a level o (inner level at x)
lowered_node inner ranges a level at (Nodes.Binary o x y) = binary inner ranges a level at o x y
lowered_node inner ranges a level at _ = plain (literal (pos 0))

-- an expression of at most this depth
abbrev pub lowered_within : ℕ → Around → Lowers
lowered_within zero a level at e = plain (literal (pos 0))
lowered_within (suc depth) a level at e =
    lowered_node (lowered_within depth a) (λ x. interval_if (range_of a.declared x)) a level at (out-Node e.node)

-- an expression is at most 64 deep
unfoldable pub lowered : Around → Lowers
lowered a level at e = lowered_within 64 a level at e

-- ---- which expressions have code so far

abbrev pub is_cell_sort : Option Sort → Bool
is_cell_sort (Some (Sorts.Int lo hi)) = true
is_cell_sort (Some Sorts.Bool) = true
is_cell_sort (Some (Sorts.Enumerated names numbers)) = true
is_cell_sort _ = false

-- a whole variable of one cell
abbrev pub is_cell : Data → Target → Bool
is_cell d t = is_empty t.path && is_cell_sort (sort_of_target d t)

abbrev pub is_simple_node : (Expr → Bool) → Data → Node-F Node Select Expr Target → Bool
is_simple_node inner d (Nodes.Number z) = true
is_simple_node inner d (Nodes.Truth t) = true
is_simple_node inner d (Nodes.Item k) = true
is_simple_node inner d (Nodes.Get t) = is_cell d t
is_simple_node inner d (Nodes.Unary o x) = inner x
is_simple_node inner d (Nodes.Binary o x y) = inner x && inner y
is_simple_node inner d _ = false

abbrev pub is_simple_within : ℕ → Data → Expr → Bool
is_simple_within zero d e = false
is_simple_within (suc depth) d e = is_simple_node (is_simple_within depth d) d (out-Node e.node)

-- its variables have no selectors and one cell, and no part of it is a structured value, a length or an alternative's
-- number
unfoldable pub is_simple : Data → Expr → Bool
is_simple d e = is_simple_within 64 d e
