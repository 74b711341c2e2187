-- Results between those at the ends of intervals: products and quotients rise or fall with each operand, whatever the other.
use Rattle.std.proofs.Common.{◌≡◌, ℕ, suc, ◌+◌, ◌/◌, ◌<◌, ◌≤◌, max, Bool, true, false, cond, refl, arith, ℤ, pos, negsuc, ◌*ℤ◌, ◌≤ℤ◌, int_le, int_div, unsigned_abs}
use Rattle.std.proofs.Math.Nat.{mul-le-mul_right, mul-le-mul_left, div-le_self, div-mul-le_self}
use Rattle.std.proofs.lemmas.Nat.{le-div}
use Rattle.std.proofs.lemmas.Int.{ints, clamps}
use Rattle.std.specs.Int.{int_min, int_max}
use borrow.Author.Differences.{up, down}
use Rattle.og_ranges.specs.declared.Interval.{Interval}
use Rattle.og_ranges.specs.Intervals.{LiesIn, spanned, corners, up_to, farthest}

-- a number from the lesser to the greater of two
pub record Between (p q z : ℤ) : Type 0 where
  pub from : int_min p q ≤ℤ z
  pub to : z ≤ℤ int_max p q

rising : (p q z : ℤ) → p ≤ℤ z → z ≤ℤ q → Between p q z
rising p q z h k = record { from = omega (arith, ints, clamps); to = omega (arith, ints, clamps) }

falling : (p q z : ℤ) → q ≤ℤ z → z ≤ℤ p → Between p q z
falling p q z h k = record { from = omega (arith, ints, clamps); to = omega (arith, ints, clamps) }

-- between two numbers that are each between two of four
spanned_holds : (p q r s u v z : ℤ) → Between u v z → Between p q u → Between r s v → LiesIn z (spanned p q r s)
spanned_holds p q r s u v z h k l = record {
  not_below = omega (arith, ints, clamps);
  not_above = omega (arith, ints, clamps);
}

-- ---- products

scaled_up : (n : ℕ) (p x : ℤ) → p ≤ℤ x → (p *ℤ pos n) ≤ℤ (x *ℤ pos n)
scaled_up n p x h =
    let less : up p + down x ≤ up x + down p = omega (arith, ints) in
    let more = mul-le-mul_right n less in
    omega (arith, ints, more)

scaled_down : (n : ℕ) (p x : ℤ) → p ≤ℤ x → (x *ℤ negsuc n) ≤ℤ (p *ℤ negsuc n)
scaled_down n p x h =
    let less : up p + down x ≤ up x + down p = omega (arith, ints) in
    let more = mul-le-mul_right (suc n) less in
    omega (arith, ints, more)

scaled : (p q x c : ℤ) → p ≤ℤ x → x ≤ℤ q → Between (p *ℤ c) (q *ℤ c) (x *ℤ c)
scaled p q x (pos n) h k = rising _ _ _ (scaled_up n p x h) (scaled_up n x q k)
scaled p q x (negsuc n) h k = falling _ _ _ (scaled_down n x q k) (scaled_down n p x h)

scales_up : (n : ℕ) (p x : ℤ) → p ≤ℤ x → (pos n *ℤ p) ≤ℤ (pos n *ℤ x)
scales_up n p x h =
    let less : up p + down x ≤ up x + down p = omega (arith, ints) in
    let more = mul-le-mul_left n less in
    omega (arith, ints, more)

scales_down : (n : ℕ) (p x : ℤ) → p ≤ℤ x → (negsuc n *ℤ x) ≤ℤ (negsuc n *ℤ p)
scales_down n p x h =
    let less : up p + down x ≤ up x + down p = omega (arith, ints) in
    let more = mul-le-mul_left (suc n) less in
    omega (arith, ints, more)

scales : (p q x c : ℤ) → p ≤ℤ x → x ≤ℤ q → Between (c *ℤ p) (c *ℤ q) (c *ℤ x)
scales p q x (pos n) h k = rising _ _ _ (scales_up n p x h) (scales_up n x q k)
scales p q x (negsuc n) h k = falling _ _ _ (scales_down n x q k) (scales_down n p x h)

pub product_holds : (a b : Interval) (x y : ℤ) → LiesIn x a → LiesIn y b → LiesIn (x *ℤ y) (corners ◌*ℤ◌ a b)
product_holds a b x y h k =
    spanned_holds (a.lo *ℤ b.lo) (a.lo *ℤ b.hi) (a.hi *ℤ b.lo) (a.hi *ℤ b.hi) (a.lo *ℤ y) (a.hi *ℤ y) (x *ℤ y)
    (scaled a.lo a.hi x y h.not_below h.not_above)
    (scales b.lo b.hi y a.lo k.not_below k.not_above)
    (scales b.lo b.hi y a.hi k.not_below k.not_above)

-- ---- quotients by what is above 0

-- the quotient rises with the dividend
divides_up : (k m n : ℕ) → 0 < k → m ≤ n → m / k ≤ n / k
divides_up k m n p h = le-div (m / k) n k p (omega (arith, div-mul-le_self m k))

-- and falls as the divisor rises
divides_down : (m k l : ℕ) → 0 < k → k ≤ l → m / l ≤ m / k
divides_down m k l p h = le-div (m / l) m k p (omega (arith, mul-le-mul_left (m / l) h, div-mul-le_self m l))

quotient_up : (n : ℕ) (p x : ℤ) → 0 < n → p ≤ℤ x → int_div p (pos n) ≤ℤ int_div x (pos n)
quotient_up n (pos a) (pos b) s h = let d = divides_up n a b s (omega (arith, ints)) in omega (arith, ints)
quotient_up n (pos a) (negsuc b) s h = absurd (omega (arith, ints))
quotient_up n (negsuc a) (pos b) s h = omega (arith, ints)
quotient_up n (negsuc a) (negsuc b) s h = let d = divides_up n (suc b) (suc a) s (omega (arith, ints)) in omega (arith, ints)

quotient_of_more : (m k l : ℕ) → 0 < k → k ≤ l → int_div (pos m) (pos l) ≤ℤ int_div (pos m) (pos k)
quotient_of_more m k l s h = let d = divides_down m k l s h in omega (arith, ints)

quotient_of_less : (m k l : ℕ) → 0 < k → k ≤ l → int_div (negsuc m) (pos k) ≤ℤ int_div (negsuc m) (pos l)
quotient_of_less m k l s h = let d = divides_down (suc m) k l s h in omega (arith, ints)

by_divisor : (x : ℤ) (k n l : ℕ) → 0 < k → k ≤ n → n ≤ l → Between (int_div x (pos k)) (int_div x (pos l)) (int_div x (pos n))
by_divisor (pos m) k n l s h j = falling _ _ _ (quotient_of_more m n l (omega arith) j) (quotient_of_more m k n s h)
by_divisor (negsuc m) k n l s h j = rising _ _ _ (quotient_of_less m k n s h) (quotient_of_less m n l (omega arith) j)

divided_by : (a : Interval) (x : ℤ) (k n l : ℕ) → 0 < k → k ≤ n → n ≤ l → LiesIn x a
    → LiesIn (int_div x (pos n)) (spanned (int_div a.lo (pos k)) (int_div a.lo (pos l)) (int_div a.hi (pos k)) (int_div a.hi (pos l)))
divided_by a x k n l s h j i =
    spanned_holds (int_div a.lo (pos k)) (int_div a.lo (pos l)) (int_div a.hi (pos k)) (int_div a.hi (pos l))
    (int_div a.lo (pos n)) (int_div a.hi (pos n)) (int_div x (pos n))
    (rising _ _ _ (quotient_up n a.lo x (omega arith) i.not_below) (quotient_up n x a.hi (omega arith) i.not_above))
    (by_divisor a.lo k n l s h j) (by_divisor a.hi k n l s h j)

by_positive : (a : Interval) (x lo hi y : ℤ) → pos 1 ≤ℤ lo → lo ≤ℤ y → y ≤ℤ hi → LiesIn x a
    → LiesIn (int_div x y) (spanned (int_div a.lo lo) (int_div a.lo hi) (int_div a.hi lo) (int_div a.hi hi))
by_positive a x (pos k) (pos l) (pos n) s h j i = divided_by a x k n l (omega (arith, ints)) (omega (arith, ints)) (omega (arith, ints)) i
by_positive a x (pos k) (pos l) (negsuc n) s h j i = absurd (omega (arith, ints))
by_positive a x (pos k) (negsuc l) y s h j i = absurd (omega (arith, ints))
by_positive a x (negsuc k) hi y s h j i = absurd (omega (arith, ints))

-- ---- quotients by anything

farther : (x : ℤ) (lo hi : ℤ) → lo ≤ℤ x → x ≤ℤ hi → unsigned_abs x ≤ max (unsigned_abs lo) (unsigned_abs hi)
farther (pos n) lo (pos h) k j = omega (arith, ints)
farther (pos n) lo (negsuc h) k j = absurd (omega (arith, ints))
farther (negsuc n) (pos l) hi k j = absurd (omega (arith, ints))
farther (negsuc n) (negsuc l) hi k j = omega (arith, ints)

nearer : (x y : ℤ) → unsigned_abs (int_div x y) ≤ unsigned_abs x
nearer (pos a) (pos b) = div-le_self a b
nearer (pos a) (negsuc b) = omega (arith, ints, div-le_self a (suc b))
nearer (negsuc a) (pos b) = omega (arith, ints, div-le_self (suc a) b)
nearer (negsuc a) (negsuc b) = div-le_self (suc a) (suc b)

within : (z : ℤ) (n : ℕ) → unsigned_abs z ≤ n → LiesIn z (up_to n)
within z n h = record { not_below = omega (arith, ints); not_above = omega (arith, ints) }

pub quotient_holds : (a b : Interval) (x y : ℤ) → LiesIn x a → LiesIn y b
    → LiesIn (int_div x y) (cond (int_le (pos 1) b.lo) (corners int_div a b) (up_to (farthest a)))
quotient_holds a b x y h k = go (int_le (pos 1) b.lo) refl
  where
    go : (t : Bool) → int_le (pos 1) b.lo ≡ t → LiesIn (int_div x y) (cond t (corners int_div a b) (up_to (farthest a)))
    go true e = by_positive a x b.lo b.hi y (omega (arith, ints)) k.not_below k.not_above h
    go false e = within (int_div x y) (farthest a) (omega (arith, nearer x y, farther x a.lo a.hi h.not_below h.not_above))

-- ---- intervals that code made

pub same_ends : {p q r s : ℤ} → p ≡ q → r ≡ s → ◌≡◌ {A = Interval} (record { lo = p; hi = r }) (record { lo = q; hi = s })
same_ends e f = λ i. record { lo = e i; hi = f i }

-- an order, as the test has it
pub at_most_true : (a b : ℤ) → a ≤ℤ b → int_le a b ≡ true
at_most_true a b h = go (int_le a b) refl
  where
    go : (t : Bool) → int_le a b ≡ t → int_le a b ≡ true
    go true e = e
    go false e = absurd (omega (arith, ints))
