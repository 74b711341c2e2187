-- The ends of the intervals of sums, differences, products and signs are reached.
use Rattle.std.proofs.Common.{Bool, true, false, cond, refl, arith, ℤ, ◌+ℤ◌, ◌-ℤ◌, ◌*ℤ◌, ◌≤ℤ◌, int_lt}
use Rattle.std.proofs.lemmas.Int.{ints}
use Rattle.std.specs.Int.{int_min, int_max}
use Rattle.og_ranges.specs.declared.Interval.{Interval}
use Rattle.og_ranges.specs.Intervals.{LiesIn, sum_of, difference_of, product_of}
use Rattle.og_ranges.specs.Laws.{Reaches, ReachesItsEnds, SignReachesItsEnds}

first_in : (a : Interval) → a.lo ≤ℤ a.hi → LiesIn a.lo a
first_in a h = record { not_below = omega (arith, ints); not_above = h }

last_in : (a : Interval) → a.lo ≤ℤ a.hi → LiesIn a.hi a
last_in a h = record { not_below = h; not_above = omega (arith, ints) }

pub sums_reach : ReachesItsEnds ◌+ℤ◌ sum_of
sums_reach a b h k = ((a.lo, b.lo, first_in a h, first_in b k, refl), (a.hi, b.hi, last_in a h, last_in b k, refl))

pub differences_reach : ReachesItsEnds ◌-ℤ◌ difference_of
differences_reach a b h k = ((a.lo, b.hi, first_in a h, last_in b k, refl), (a.hi, b.lo, last_in a h, first_in b k, refl))

pub signs_reach : SignReachesItsEnds
signs_reach a h = ((a.hi, last_in a h, refl), (a.lo, first_in a h, refl))

-- what both of two numbers satisfy, the one that is chosen does
chosen : (P : ℤ → Type 0) (t : Bool) (p q : ℤ) → P p → P q → P (cond t p q)
chosen P true p q h k = h
chosen P false p q h k = k

module _ (P : ℤ → Type 0) where
  lesser_of : (p q : ℤ) → P p → P q → P (int_min p q)
  lesser_of p q h k = chosen P (int_lt q p) q p k h

  greater_of : (p q : ℤ) → P p → P q → P (int_max p q)
  greater_of p q h k = chosen P (int_lt q p) p q h k

pub products_reach : ReachesItsEnds ◌*ℤ◌ product_of
products_reach a b h k =
    let P : ℤ → Type 0 = Reaches ◌*ℤ◌ a b in
    let ll : P (a.lo *ℤ b.lo) = (a.lo, b.lo, first_in a h, first_in b k, refl) in
    let lh : P (a.lo *ℤ b.hi) = (a.lo, b.hi, first_in a h, last_in b k, refl) in
    let hl : P (a.hi *ℤ b.lo) = (a.hi, b.lo, last_in a h, first_in b k, refl) in
    let hh : P (a.hi *ℤ b.hi) = (a.hi, b.hi, last_in a h, last_in b k, refl) in
    (lesser_of P _ _ (lesser_of P _ _ ll lh) (lesser_of P _ _ hl hh), greater_of P _ _ (greater_of P _ _ ll lh) (greater_of P _ _ hl hh))
