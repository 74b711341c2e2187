-- Worked examples of the intervals of expressions, each computed from the definitions: `x` is one of 0 to 255, and `xs` has up
-- to 16 such items. The text stands beside each; a place is a column of line 1.
use Rattle.std.specs.Prelude.{◌≡◌, ℕ, List, [], ◌∷◌, ℤ, pos, negsuc}
use Rattle.og_base.specs.declared.Place.{Place}
use Rattle.og_base.specs.declared.Rule.{Rule}
use Rattle.og_base.specs.declared.Rule.TheVariants.{G1, G5}
use Rattle.og_base.specs.declared.Violation.{Violation}
use Rattle.og_names.specs.declared.NameId.{NameId}
use Rattle.og_types.specs.declared.TypeId.{TypeId}
use Rattle.og_types.specs.declared.Sort.TheVariants as Sorts
use Rattle.og_types.specs.declared.Value as Values
use Rattle.og_model.specs.declared.VarId.TheVariants.{Process}
use Rattle.og_model.specs.declared.UnaryOp.TheVariants.{Minus}
use Rattle.og_model.specs.declared.BinaryOp.{BinaryOp}
use Rattle.og_model.specs.declared.BinaryOp.TheVariants.{Add, Sub, Mul, Div, Mod, Rem, Lt}
use Rattle.og_model.specs.declared.ExprSort.TheVariants.{Int, Bool as Truths}
use Rattle.og_model.specs.declared.Select.{Select}
use Rattle.og_model.specs.declared.Select as selects
use Rattle.og_model.specs.declared.Expr.{Expr}
use Rattle.og_model.specs.declared.Node.{Node}
use Rattle.og_model.specs.declared.Node as nodes
use Rattle.og_model.specs.WellSorted.{Data}
use Rattle.og_ranges.specs.Ranges.{without, range_of}

abbrev at : ℕ → Place
at column = record { file = 0; line = 1; column = column }

abbrev the : ℕ → TypeId
the n = record { 0 = n }

abbrev named : ℕ → NameId
named n = record { 0 = n }

abbrev data_here : Data
data_here = record {
  types = Sorts.Int (pos 0) (pos 255) ∷ Sorts.SeqOf 0 16 (the 0) ∷ [];
  variables = record { name = named 0; sort = the 0; initial = Values.Int (pos 0) } ∷ record { name = named 1; sort = the 1; initial = Values.SeqOf [] } ∷ [];
  locals = [];
}

abbrev number_at : ℕ → Node → Expr
number_at column node = record { place = at column; first = at column; sort = Int; node = node }

abbrev literal : ℕ → ℤ → Expr
literal column z = number_at column (nodes.Number z)

-- x, and an item of xs
abbrev x_at : ℕ → Expr
x_at column = number_at column (nodes.Get (record { variable = Process 0; path = [] }))

abbrev item_at : ℕ → Expr → Expr
item_at column index = number_at column (nodes.Get (record { variable = Process 1; path = selects.At index ∷ [] }))

abbrev length_at : ℕ → Expr
length_at column = number_at column (nodes.Length (record { variable = Process 1; path = [] }))

abbrev under : ℕ → BinaryOp → Expr → Expr → Expr
under column op left right = number_at column (nodes.Binary op left right)

abbrev less : ℕ → Expr → Expr → Expr
less column left right = record { place = at column; first = at column; sort = Truths; node = nodes.Binary Lt left right }

abbrev lies : Expr → ℤ → ℤ → Type 0
lies e lo hi = range_of data_here e ≡ record { interval = record { lo = lo; hi = hi }; violations = [] }

abbrev broken : Rule → ℕ → Violation
broken rule column = record { rule = rule; place = at column }

abbrev breaks : Expr → List Violation → Type 0
breaks e violations = range_of data_here e ≡ without violations

-- 2^63, which no literal without a sign may be
abbrev too_great : ℤ
too_great = pos 9223372036854775808

abbrev pub NumbersLie : Type 0
NumbersLie =
    -- x + 1, x - 1, - x
    lies (under 3 Add (x_at 1) (literal 5 (pos 1))) (pos 1) (pos 256) × lies (under 3 Sub (x_at 1) (literal 5 (pos 1))) (negsuc 0) (pos 254)
    × lies (number_at 1 (nodes.Unary Minus (x_at 3))) (negsuc 254) (pos 0)
    -- x / (x + 1), x mod (x + 1), x rem 7
    × lies (under 3 Div (x_at 1) (under 8 Add (x_at 6) (literal 10 (pos 1)))) (pos 0) (pos 255)
    × lies (under 3 Mod (x_at 1) (under 10 Add (x_at 8) (literal 12 (pos 1)))) (pos 0) (pos 255)
    × lies (under 3 Rem (x_at 1) (literal 7 (pos 7))) (pos 0) (pos 6)
    -- -9223372036854775808, length(xs), xs(x)
    × lies (literal 1 (negsuc 9223372036854775807)) (negsuc 9223372036854775807) (negsuc 9223372036854775807)
    × lies (length_at 1) (pos 0) (pos 16) × lies (item_at 1 (x_at 4)) (pos 0) (pos 255)

abbrev pub RulesAreBroken : Type 0
RulesAreBroken =
    -- 9223372036854775808
    breaks (literal 1 too_great) (broken G1 1 ∷ [])
    -- 9223372036854775807 + x
    × breaks (under 21 Add (literal 1 (pos 9223372036854775807)) (x_at 23)) (broken G1 21 ∷ [])
    -- x mod (x - 5)
    × breaks (under 3 Mod (x_at 1) (under 10 Sub (x_at 8) (literal 12 (pos 5)))) (broken G5 3 ∷ [])
    -- 4611686018427387904 * 2 * x: the inner product alone
    × breaks (under 25 Mul (under 21 Mul (literal 1 (pos 4611686018427387904)) (literal 23 (pos 2))) (x_at 27)) (broken G1 21 ∷ [])
    -- 9223372036854775808 - 9223372036854775808: both literals
    × breaks (under 21 Sub (literal 1 too_great) (literal 23 too_great)) (broken G1 1 ∷ broken G1 23 ∷ [])
    -- xs(9223372036854775808) + 1, and x < 9223372036854775808
    × breaks (under 25 Add (item_at 1 (literal 4 too_great)) (literal 27 (pos 1))) (broken G1 4 ∷ [])
    × breaks (less 3 (x_at 1) (literal 5 too_great)) (broken G1 5 ∷ []) × breaks (less 3 (x_at 1) (literal 5 (pos 7))) []
