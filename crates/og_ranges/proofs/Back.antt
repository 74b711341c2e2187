-- Numbers that code computed in 128 bits are the numbers, since none of them passes 127.
use Rattle.std.proofs.Common.{◌≡◌, ◌≤◌, ◌∙◌, arith, ℤ, pos, negsuc, ◌*ℤ◌, ◌≤ℤ◌, int_div, unsigned_abs, FitsSigned, to_z, of_z}
use Rattle.std.proofs.lemmas.Int.{ints, to_z-of_z, fits_signed_mul, quot_is, quot_fits}
use Rattle.std.specs.Int.{w128}
use Rattle.og_ranges.specs.declared.Interval.{Interval}
use Rattle.og_ranges.specs.Intervals.{IsInterval, corners, spanned}

-- a number as it comes back from 128 bits
abbrev pub back : ℤ → ℤ
back z = to_z w128 (of_z w128 z)

-- an end of an interval
record IsEnd (z : ℤ) : Type 0 where
  least : negsuc 9223372036854775807 ≤ℤ z
  greatest : z ≤ℤ pos 9223372036854775808

low_end : (a : Interval) → IsInterval a → IsEnd a.lo
low_end a h = record { least = h.least; greatest = omega (arith, ints, h.ordered, h.greatest) }

high_end : (a : Interval) → IsInterval a → IsEnd a.hi
high_end a h = record { least = omega (arith, ints, h.ordered, h.least); greatest = h.greatest }

fits : (z : ℤ) → IsEnd z → FitsSigned w128 z
fits z h = omega (arith, ints, h.least, h.greatest)

near : (z : ℤ) → IsEnd z → unsigned_abs z ≤ 9223372036854775808
near z h = omega (arith, ints, h.least, h.greatest)

product_back : (p q : ℤ) → IsEnd p → IsEnd q → back (back p *ℤ back q) ≡ p *ℤ q
product_back p q h k =
    (λ i. back (to_z-of_z w128 p (fits p h) i *ℤ to_z-of_z w128 q (fits q k) i))
    ∙ to_z-of_z w128 (p *ℤ q) (fits_signed_mul w128 p q 9223372036854775808 9223372036854775808 (near p h) (near q k) (omega arith))

pub products_back : (a b : Interval) → IsInterval a → IsInterval b
    → spanned (back (back a.lo *ℤ back b.lo)) (back (back a.lo *ℤ back b.hi)) (back (back a.hi *ℤ back b.lo)) (back (back a.hi *ℤ back b.hi)) ≡ corners ◌*ℤ◌ a b
products_back a b h k = λ i. spanned
    (product_back a.lo b.lo (low_end a h) (low_end b k) i) (product_back a.lo b.hi (low_end a h) (high_end b k) i)
    (product_back a.hi b.lo (high_end a h) (low_end b k) i) (product_back a.hi b.hi (high_end a h) (high_end b k) i)

quotient_back : (p q : ℤ) → IsEnd p → IsEnd q → pos 1 ≤ℤ q → back (int_div (back p) (back q)) ≡ int_div p q
quotient_back p q h k s = quot_is w128 p q (fits p h) (fits q k) (quot_fits w128 p q (fits p h) (omega (arith, ints, s)))

pub quotients_back : (a b : Interval) → IsInterval a → IsInterval b → pos 1 ≤ℤ b.lo
    → spanned (back (int_div (back a.lo) (back b.lo))) (back (int_div (back a.lo) (back b.hi))) (back (int_div (back a.hi) (back b.lo))) (back (int_div (back a.hi) (back b.hi)))
    ≡ corners int_div a b
quotients_back a b h k s =
    let t : pos 1 ≤ℤ b.hi = omega (arith, ints, s, k.ordered) in
    λ i. spanned
    (quotient_back a.lo b.lo (low_end a h) (low_end b k) s i) (quotient_back a.lo b.hi (low_end a h) (high_end b k) t i)
    (quotient_back a.hi b.lo (high_end a h) (low_end b k) s i) (quotient_back a.hi b.hi (high_end a h) (high_end b k) t i)

-- one of four numbers that is chosen by three calls
pub four_back : (f : ℤ → ℤ → ℤ) (p q r s m n z : ℤ) → FitsSigned w128 p → FitsSigned w128 q → FitsSigned w128 r → FitsSigned w128 s → FitsSigned w128 m → FitsSigned w128 n → FitsSigned w128 z
    → m ≡ f (back p) (back q) → n ≡ f (back r) (back s) → z ≡ f (back m) (back n) → back z ≡ f (f p q) (f r s)
four_back f p q r s m n z fp fq fr fs fm fn fz em en ez =
    to_z-of_z w128 z fz ∙ ez ∙ (λ i. f (to_z-of_z w128 m fm i) (to_z-of_z w128 n fn i)) ∙ (λ i. f (em i) (en i))
    ∙ (λ i. f (f (to_z-of_z w128 p fp i) (to_z-of_z w128 q fq i)) (f (to_z-of_z w128 r fr i) (to_z-of_z w128 s fs i)))
