-- What divisions leave, where no divisor is negative.
use Rattle.std.proofs.Common.{◌≡◌, ℕ, zero, suc, ◌-◌, ◌%◌, ◌<◌, Bool, true, false, cond, refl, sym, arith, ℤ, pos, negsuc, ◌-ℤ◌, neg_ℤ, ◌≤ℤ◌, int_lt, int_rem}
use Rattle.std.proofs.Math.Nat.{mod-lt}
use Rattle.std.proofs.lemmas.Bool.{false≢true}
use Rattle.std.proofs.lemmas.Bool.Decides.{Decides-int_eq}
use Rattle.std.proofs.lemmas.Int.{ints}
use Rattle.std.specs.Int.{int_rem_euclid}
use Rattle.std.specs.Ordering.{int_eq}
use Rattle.og_ranges.specs.declared.Interval.{Interval}
use Rattle.og_ranges.specs.Intervals.{LiesIn, leaves_at_most, modulus_of, remainder_of}

-- where the greatest divisor is above a number, what is left may be that number
left_below : (b : Interval) (r : ℕ) → pos (suc r) ≤ℤ b.hi → pos r ≤ℤ leaves_at_most b
left_below b r h = go (int_eq b.hi (pos 0)) refl
  where
    go : (t : Bool) → int_eq b.hi (pos 0) ≡ t → pos r ≤ℤ cond t (pos 0) (b.hi -ℤ pos 1)
    go true e = let none = (Decides-int_eq b.hi (pos 0)).0 e in absurd (omega (arith, ints))
    go false e = omega (arith, ints)

modulus_left : (a b : Interval) (r : ℕ) → pos (suc r) ≤ℤ b.hi → LiesIn (pos r) (modulus_of a b)
modulus_left a b r h = record { not_below = omega (arith, ints); not_above = left_below b r h }

-- what is left has the sign of the dividend, and is less than some divisor
rest_holds : (a b : Interval) (x z : ℤ) (r : ℕ) → LiesIn x a → pos (suc r) ≤ℤ b.hi → neg_ℤ (pos r) ≤ℤ z → z ≤ℤ pos r
    → (x ≤ℤ pos 0 → z ≤ℤ pos 0) → (pos 0 ≤ℤ x → pos 0 ≤ℤ z) → LiesIn z (remainder_of a b)
rest_holds a b x z r h less above below lower upper = record { not_below = low (int_lt a.lo (pos 0)) refl; not_above = high (int_lt (pos 0) a.hi) refl }
  where
    low : (t : Bool) → int_lt a.lo (pos 0) ≡ t → cond t (neg_ℤ (leaves_at_most b)) (pos 0) ≤ℤ z
    low true e = let most = left_below b r less in omega (arith, ints)
    low false e = upper (omega (arith, ints, h.not_below))

    high : (t : Bool) → int_lt (pos 0) a.hi ≡ t → z ≤ℤ cond t (leaves_at_most b) (pos 0)
    high true e = let most = left_below b r less in omega (arith, ints)
    high false e = lower (omega (arith, ints, h.not_above))

pub not_zero : (n : ℕ) → int_eq (pos n) (pos 0) ≡ false → 0 < n
not_zero zero e = absurd (false≢true (sym e))
not_zero (suc n) e = omega arith

modulus_by : (a b : Interval) (x : ℤ) (n : ℕ) → 0 < n → pos n ≤ℤ b.hi → LiesIn (int_rem_euclid x (pos n)) (modulus_of a b)
modulus_by a b (pos m) n s h = let l = mod-lt m s in modulus_left a b (m % n) (omega (arith, ints))
modulus_by a b (negsuc m) n s h = modulus_left a b (n - 1 - m % n) (omega (arith, ints))

rest_by : (a b : Interval) (x : ℤ) (n : ℕ) → 0 < n → pos n ≤ℤ b.hi → LiesIn x a → LiesIn (int_rem x (pos n)) (remainder_of a b)
rest_by a b (pos m) n s h i =
    let l = mod-lt m s in
    rest_holds a b (pos m) (pos (m % n)) (m % n) i (omega (arith, ints)) (omega (arith, ints)) (omega (arith, ints))
    (λ z. let none : m ≡ 0 = omega (arith, ints) in omega (arith, ints)) (λ z. omega (arith, ints))
rest_by a b (negsuc m) n s h i =
    let l = mod-lt (suc m) s in
    rest_holds a b (negsuc m) (neg_ℤ (pos (suc m % n))) (suc m % n) i (omega (arith, ints)) (omega (arith, ints)) (omega (arith, ints))
    (λ z. omega (arith, ints)) (λ z. absurd (omega (arith, ints)))

pub modulus_holds : (a b : Interval) (x y : ℤ) → pos 0 ≤ℤ b.lo → LiesIn y b → int_eq y (pos 0) ≡ false → LiesIn (int_rem_euclid x y) (modulus_of a b)
modulus_holds a b x (pos n) p h e = modulus_by a b x n (not_zero n e) h.not_above
modulus_holds a b x (negsuc n) p h e = absurd (omega (arith, ints, h.not_below))

pub rest_of_division_holds : (a b : Interval) (x y : ℤ) → pos 0 ≤ℤ b.lo → LiesIn x a → LiesIn y b → int_eq y (pos 0) ≡ false → LiesIn (int_rem x y) (remainder_of a b)
rest_of_division_holds a b x (pos n) p i h e = rest_by a b x n (not_zero n e) h.not_above i
rest_of_division_holds a b x (negsuc n) p i h e = absurd (omega (arith, ints, h.not_below))
