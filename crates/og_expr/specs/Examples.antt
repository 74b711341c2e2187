-- Worked examples of code for expressions, computed from the definitions: `x` is one of 0 to 255, and `b` is a truth
-- value. Slot 0 tells the kind of a fault, `x` stands in slot 1, `b` in slot 2, and the temporaries are slots 3 to 5.
-- The code of an expression stands alone in a function, and a fault leads to its end. The text stands beside each.
use Rattle.std.specs.Prelude.{◌≡◌, ℕ, ◌+◌, false, List, [], ◌∷◌, length, ℤ, pos, negsuc, Option, Some, None, Result, Ok}
use Rattle.og_base.specs.declared.Place.{Place}
use Rattle.og_names.specs.declared.NameId.{NameId}
use Rattle.og_types.specs.declared.TypeId.{TypeId}
use Rattle.og_types.specs.declared.Sort.TheVariants as Sorts
use Rattle.og_types.specs.declared.Value as Values
use Rattle.og_model.specs.declared.VarId.TheVariants.{Process}
use Rattle.og_model.specs.declared.UnaryOp.TheVariants.{Minus, Not}
use Rattle.og_model.specs.declared.BinaryOp.{BinaryOp}
use Rattle.og_model.specs.declared.BinaryOp.TheVariants as Ops
use Rattle.og_model.specs.declared.ExprSort.TheVariants.{Int, Bool as Truths}
use Rattle.og_model.specs.declared.Expr.{Expr}
use Rattle.og_model.specs.declared.Node.{Node}
use Rattle.og_model.specs.declared.Node as nodes
use Rattle.og_model.specs.WellSorted.{Data}
use Rattle.og_ir.specs.declared.Instr.{Instr}
use Rattle.og_ir.specs.declared.Ir.{Ir}
use Rattle.og_ir.specs.declared.FlatOp.TheVariants as op
use Rattle.og_ir.specs.Cells.{Cells, Cell, global}
use Rattle.og_ir.specs.Arithmetic.{Trouble, in_64_bits}
use Rattle.og_ir.specs.FlatSteps.{value_of, flat_step}
use Rattle.og_ir.specs.Steps.{Config, Running, Over, exec}
use Rattle.og_expr.specs.declared.Lowered.{Lowered}
use Rattle.og_expr.specs.Lowering.{Around, number, read, operation, set, flat_of, lowered}

abbrev here : Place
here = record { file = 0; line = 1; column = 1 }

abbrev named : ℕ → NameId
named n = record { 0 = n }

abbrev the : ℕ → TypeId
the n = record { 0 = n }

abbrev data_here : Data
data_here = record {
  types = Sorts.Int (pos 0) (pos 255) ∷ Sorts.Bool ∷ [];
  variables = record { name = named 0; sort = the 0; initial = Values.Int (pos 0) } ∷ record { name = named 1; sort = the 1; initial = Values.Bool false } ∷ [];
  locals = [];
}

abbrev around_here : Around
around_here = record { declared = data_here; variables = 1 ∷ 2 ∷ []; locals = []; temps = λ level. 3 + level; kind = 0; fault = 100 }

-- ---- expressions

abbrev number_of : Node → Expr
number_of node = record { place = here; first = here; sort = Int; node = node }

abbrev truth_of : Node → Expr
truth_of node = record { place = here; first = here; sort = Truths; node = node }

abbrev int : ℕ → Expr
int n = number_of (nodes.Number (pos n))

abbrev minus : Expr → Expr
minus e = number_of (nodes.Unary Minus e)

abbrev x : Expr
x = number_of (nodes.Get (record { variable = Process 0; path = [] }))

abbrev b : Expr
b = truth_of (nodes.Get (record { variable = Process 1; path = [] }))

abbrev calculated : BinaryOp → Expr → Expr → Expr
calculated o left right = number_of (nodes.Binary o left right)

abbrev asked : BinaryOp → Expr → Expr → Expr
asked o left right = truth_of (nodes.Binary o left right)

abbrev opposite : Expr → Expr
opposite e = truth_of (nodes.Unary Not e)

-- ---- runs

abbrev alone : List Instr → Ir
alone code = record { slots = []; events = []; functions = record { name = record { bytes = [] }; code = code; labels = [] } ∷ [] }

abbrev no_event : ℕ → List Cells → Option ℕ
no_event k slots = None

-- the number that the operand has at the end, and the kind that is told
pub record Told : Type 0 where
  pub kind : Option Cells
  pub number : Result ℤ Trouble

abbrev told : Lowered → Config → Option Told
told code (Over slots) = Some (record { kind = global 0 slots; number = value_of in_64_bits slots (flat_of around_here 0 code.value) })
told code _ = None

abbrev run : Lowered → ℤ → ℤ → Option Told
run code p q =
    told code (exec (flat_step no_event in_64_bits (alone code.code)) 40
    (Running (Cell (pos 0) ∷ Cell p ∷ Cell q ∷ Cell (pos 0) ∷ Cell (pos 0) ∷ Cell (pos 0) ∷ []) (record { function = 0; place = 0 }) [])).config

-- with these numbers in x and b the code gives a number
abbrev gives : Expr → ℕ → ℕ → ℤ → Type 0
gives e p q z = run (lowered around_here 0 0 e) (pos p) (pos q) ≡ Some (record { kind = Some (Cell (pos 0)); number = Ok z })

abbrev kind_in : Option Told → Option Cells
kind_in None = None
kind_in (Some t) = t.kind

-- or a division by 0
abbrev divides_by_0 : Expr → ℕ → ℕ → Type 0
divides_by_0 e p q = kind_in (run (lowered around_here 0 0 e) (pos p) (pos q)) ≡ Some (Cell (pos 3))

-- ---- examples

pub record CodeGivesNumbers : Type 0 where
  -- (x + 2) * 3
  pub product : gives (calculated Ops.Mul (calculated Ops.Add x (int 2)) (int 3)) 5 0 (pos 21)
  -- 10 - (x - 4)
  pub difference : gives (calculated Ops.Sub (int 10) (calculated Ops.Sub x (int 4))) 9 0 (pos 5)
  -- (-7) / 2, (-7) mod 3, (-7) rem 3
  pub truncated : gives (calculated Ops.Div (minus (int 7)) (int 2)) 0 0 (negsuc 2)
  pub modulus : gives (calculated Ops.Mod (minus (int 7)) (int 3)) 0 0 (pos 2)
  pub rest : gives (calculated Ops.Rem (minus (int 7)) (int 3)) 0 0 (negsuc 0)
  -- 100 / x
  pub quotient : gives (calculated Ops.Div (int 100) x) 7 0 (pos 14)
  pub fault : divides_by_0 (calculated Ops.Div (int 100) x) 0 0
  -- 1 / 0
  pub constant : divides_by_0 (calculated Ops.Div (int 1) (int 0)) 0 0

pub record CodeGivesTruths : Type 0 where
  -- x <= 5
  pub less : gives (asked Ops.Le x (int 5)) 5 0 (pos 1)
  pub more : gives (asked Ops.Le x (int 5)) 6 0 (pos 0)
  -- b and then 10 / x > 3, and the same with `and`
  pub not_needed : gives (asked Ops.AndThen b (asked Ops.Gt (calculated Ops.Div (int 10) x) (int 3))) 0 0 (pos 0)
  pub needed : divides_by_0 (asked Ops.AndThen b (asked Ops.Gt (calculated Ops.Div (int 10) x) (int 3))) 0 1
  pub both : gives (asked Ops.AndThen b (asked Ops.Gt (calculated Ops.Div (int 10) x) (int 3))) 2 1 (pos 1)
  pub plain : divides_by_0 (asked Ops.And b (asked Ops.Gt (calculated Ops.Div (int 10) x) (int 3))) 0 0
  -- b or else x = 5, b or x = 5, not b xor x = 5
  pub first : gives (asked Ops.OrElse b (asked Ops.Eq x (int 5))) 0 1 (pos 1)
  pub second : gives (asked Ops.Or b (asked Ops.Eq x (int 5))) 5 0 (pos 1)
  pub neither : gives (asked Ops.Or b (asked Ops.Eq x (int 5))) 4 0 (pos 0)
  pub one : gives (asked Ops.Xor (opposite b) (asked Ops.Eq x (int 5))) 5 0 (pos 0)

pub record CodeIsShort : Type 0 where
  -- x has no code, nor has -7
  pub variable : (lowered around_here 0 0 x).code ≡ []
  pub literal : (lowered around_here 0 0 (minus (int 7))).code ≡ []
  -- x + 1
  pub sum : (lowered around_here 0 0 (calculated Ops.Add x (int 1))).code ≡ set 3 (read 1) ∷ set 3 (operation op.Add (read 3) (number (pos 1))) ∷ []
  -- x / 2 has no test, and x / x has one
  pub untested : length (lowered around_here 0 0 (calculated Ops.Div x (int 2))).code ≡ 2
  pub tested : length (lowered around_here 0 0 (calculated Ops.Div x x)).code ≡ 6
