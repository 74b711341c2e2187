-- What holds of intervals: each has every value that its operator can give (`apply`, og_model/specs/Expressions), and those of
-- sums, differences, products and signs have no number more than they need at either end. Of divisions that is not so.
use Rattle.std.specs.Prelude.{◌≡◌, true, [], ℤ, pos, ◌≤ℤ◌, neg_ℤ, Some, Ok}
use Rattle.og_types.specs.declared.TypeId.{TypeId}
use Rattle.og_types.specs.declared.Value.{Value}
use Rattle.og_types.specs.Table.{is_table}
use Rattle.og_types.specs.Values.{is_in}
use Rattle.og_model.specs.declared.VarId.{VarId}
use Rattle.og_model.specs.declared.Expr.{Expr}
use Rattle.og_model.specs.declared.ExprSort.TheVariants.{Int}
use Rattle.og_model.specs.declared.UnaryOp.TheVariants.{Minus}
use Rattle.og_model.specs.declared.BinaryOp.{BinaryOp}
use Rattle.og_model.specs.Expressions.{Frame, Store, location_of, read, number_of, apply, unary, eval}
use Rattle.og_model.specs.WellSorted.{Data, sort_of_variable, is_expression}
use Rattle.og_ranges.specs.declared.Interval.{Interval}
use Rattle.og_ranges.specs.Intervals.{LiesIn, negative_of}
use Rattle.og_ranges.specs.Ranges.{is_within_64_bits, range_of}

-- of numbers of two intervals the operator gives, where it gives any, a number of the third
abbrev pub GivesIn : BinaryOp → (Interval → Interval → Interval) → Type 0
GivesIn op of =
    (a b : Interval) (x y v : Value) → LiesIn (number_of x) a → LiesIn (number_of y) b → apply op x y ≡ Ok v
    → LiesIn (number_of v) (of a b)

-- the same where the right operand is not negative
abbrev pub GivesInWherePositive : BinaryOp → (Interval → Interval → Interval) → Type 0
GivesInWherePositive op of =
    (a b : Interval) (x y v : Value) → pos 0 ≤ℤ b.lo → LiesIn (number_of x) a → LiesIn (number_of y) b → apply op x y ≡ Ok v
    → LiesIn (number_of v) (of a b)

-- of the sign
abbrev pub SignGivesIn : Type 0
SignGivesIn =
    (a : Interval) (x v : Value) → LiesIn (number_of x) a → unary Minus x ≡ Ok v → LiesIn (number_of v) (negative_of a)

-- numbers of the intervals give this one
abbrev pub Reaches : (ℤ → ℤ → ℤ) → Interval → Interval → ℤ → Type 0
Reaches f a b z = (x : ℤ) × (y : ℤ) × LiesIn x a × LiesIn y b × (f x y ≡ z)

-- both ends are reached
abbrev pub ReachesItsEnds : (ℤ → ℤ → ℤ) → (Interval → Interval → Interval) → Type 0
ReachesItsEnds f of =
    (a b : Interval) → a.lo ≤ℤ a.hi → b.lo ≤ℤ b.hi → Reaches f a b (of a b).lo × Reaches f a b (of a b).hi

abbrev pub SignReachesItsEnds : Type 0
SignReachesItsEnds =
    (a : Interval) → a.lo ≤ℤ a.hi → ((x : ℤ) × LiesIn x a × (neg_ℤ x ≡ (negative_of a).lo)) × ((x : ℤ) × LiesIn x a × (neg_ℤ x ≡ (negative_of a).hi))

-- ---- expressions

-- each variable holds a value of its type
pub record HoldsValues (d : Data) (b : Frame) (s : Store) : Type 0 where
  pub each : (x : VarId) (id : TypeId) → sort_of_variable d x ≡ Some id → is_in d.types id (read s (location_of b x)) ≡ true

-- an integer expression that is built right and violates neither G1 nor G5 has a value in its interval, where it has one
abbrev pub ValuesLieInTheirIntervals : Type 0
ValuesLieInTheirIntervals =
    (d : Data) (b : Frame) (s : Store) (e : Expr) (v : Value) → HoldsValues d b s → is_expression d e ≡ true → e.sort ≡ Int
    → (range_of d e).violations ≡ [] → eval b s e ≡ Ok v → LiesIn (number_of v) (range_of d e).interval

-- there is a number in it, and it lies within 64 bits
pub record IsWithin (a : Interval) : Type 0 where
  pub ordered : a.lo ≤ℤ a.hi
  pub within : is_within_64_bits a ≡ true

-- the interval of an expression over a table of types is such a one
abbrev pub NumbersHaveIntervals : Type 0
NumbersHaveIntervals = (d : Data) (e : Expr) → is_table d.types ≡ true → IsWithin (range_of d e).interval
