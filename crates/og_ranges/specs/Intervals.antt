-- Intervals of whole numbers, and what the operators of integer expressions (Z.101 section 12.2, with the operators of Z.104)
-- make of them. An interval holds every value that an expression can have, and maybe more: a quotient by a divisor that may
-- be 0 or negative goes as far as the dividend to both sides, `mod` and `rem` look at the greatest divisor alone. No
-- recommendation has intervals: they are this project's own.
use Rattle.std.specs.Prelude.{ℕ, ℤ, pos, negsuc, neg_ℤ, ◌+ℤ◌, ◌-ℤ◌, ◌*ℤ◌, ◌≤ℤ◌, int_le, int_lt, int_div, unsigned_abs, max, cond}
use Rattle.std.specs.Int.{int_min, int_max}
use Rattle.std.specs.Ordering.{int_eq}
use Rattle.og_ranges.specs.declared.Interval.{Interval}

-- the number is one of the interval
pub record LiesIn (x : ℤ) (a : Interval) : Type 0 where
  pub not_below : a.lo ≤ℤ x
  pub not_above : x ≤ℤ a.hi

-- there is a number in it, and none of them passes 64 bits but 2^63
pub record IsInterval (a : Interval) : Type 0 where
  pub least : negsuc 9223372036854775807 ≤ℤ a.lo
  pub ordered : a.lo ≤ℤ a.hi
  pub greatest : a.hi ≤ℤ pos 9223372036854775808

-- ---- end by end

abbrev pub sum_of : Interval → Interval → Interval
sum_of a b = record { lo = a.lo +ℤ b.lo; hi = a.hi +ℤ b.hi }

abbrev pub difference_of : Interval → Interval → Interval
difference_of a b = record { lo = a.lo -ℤ b.hi; hi = a.hi -ℤ b.lo }

abbrev pub negative_of : Interval → Interval
negative_of a = record { lo = neg_ℤ a.hi; hi = neg_ℤ a.lo }

-- ---- by the four corners

-- from the least to the greatest of four numbers
abbrev pub spanned : ℤ → ℤ → ℤ → ℤ → Interval
spanned p q r s = record { lo = int_min (int_min p q) (int_min r s); hi = int_max (int_max p q) (int_max r s) }

-- what is between the four results at the ends
abbrev pub corners : (ℤ → ℤ → ℤ) → Interval → Interval → Interval
corners f a b = spanned (f a.lo b.lo) (f a.lo b.hi) (f a.hi b.lo) (f a.hi b.hi)

abbrev pub product_of : Interval → Interval → Interval
product_of a b = corners ◌*ℤ◌ a b

-- ---- divisions

-- from -n to n
abbrev pub up_to : ℕ → Interval
up_to n = record { lo = neg_ℤ (pos n); hi = pos n }

-- the greater of the absolute ends
abbrev pub farthest : Interval → ℕ
farthest a = max (unsigned_abs a.lo) (unsigned_abs a.hi)

-- truncated toward zero
abbrev pub quotient_of : Interval → Interval → Interval
quotient_of a b = cond (int_le (pos 1) b.lo) (corners int_div a b) (up_to (farthest a))

-- the most that a division by a number of the interval leaves, where none is negative; nothing is divided by 0
abbrev pub leaves_at_most : Interval → ℤ
leaves_at_most b = cond (int_eq b.hi (pos 0)) (pos 0) (b.hi -ℤ pos 1)

abbrev pub modulus_of : Interval → Interval → Interval
modulus_of a b = record { lo = pos 0; hi = leaves_at_most b }

-- with the sign of the left operand
abbrev pub remainder_of : Interval → Interval → Interval
remainder_of a b = record {
  lo = cond (int_lt a.lo (pos 0)) (neg_ℤ (leaves_at_most b)) (pos 0);
  hi = cond (int_lt (pos 0) a.hi) (leaves_at_most b) (pos 0);
}
