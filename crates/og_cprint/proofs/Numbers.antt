-- How numbers are written, by the tests that the printer makes.
use Rattle.std.proofs.Common.{◌≡◌, ◌≢◌, suc, ◌-◌, ◌^◌, Bool, true, false, cond, not, ◌==◌, ◌++◌, ℤ, pos, negsuc, ◌<ℤ◌, ◌≤ℤ◌, Some, refl, ap, eqb-true, arith}
use Rattle.std.specs.Prelude.{codes, unsigned_abs}
use Rattle.std.proofs.lemmas.Int.{ints}
use Rattle.std.proofs.lemmas.Bool.Decides.{nat_tests}
use Rattle.og_cprint.specs.Printed.{Bytes, literal_bytes, least_bytes, number_bytes, is_literal, is_number}

pub number-least : number_bytes (negsuc (2 ^ 63 - 1)) ≡ least_bytes
number-least = refl

pub number-negative : (z : ℤ) → z ≢ negsuc (2 ^ 63 - 1) → z <ℤ pos 0 → number_bytes z ≡ codes "-" ++ literal_bytes (unsigned_abs z)
number-negative (pos n) h k = absurd (omega (arith, ints, k))
number-negative (negsuc n) h k = go (n == 2 ^ 63 - 1) refl
  where
    go : (b : Bool) → (n == 2 ^ 63 - 1) ≡ b → cond {A = Bytes} b least_bytes (codes "-" ++ literal_bytes (suc n)) ≡ codes "-" ++ literal_bytes (suc n)
    go true e = absurd (h (ap negsuc (eqb-true n (2 ^ 63 - 1) e)))
    go false e = refl

pub number-positive : (z : ℤ) → pos 0 ≤ℤ z → number_bytes z ≡ literal_bytes (unsigned_abs z)
number-positive (pos n) h = refl
number-positive (negsuc n) h = absurd (omega (arith, ints, h))

pub literal-other : (z : ℤ) → z ≢ pos 0 → z ≢ negsuc (2 ^ 63 - 1) → is_literal z ≡ true
literal-other (pos n) h k = go (n == 0) refl
  where
    go : (b : Bool) → (n == 0) ≡ b → not b ≡ true
    go true e = absurd (h (ap pos (eqb-true n 0 e)))
    go false e = refl
literal-other (negsuc n) h k = go (n == 2 ^ 63 - 1) refl
  where
    go : (b : Bool) → (n == 2 ^ 63 - 1) ≡ b → not b ≡ true
    go true e = absurd (k (ap negsuc (eqb-true n (2 ^ 63 - 1) e)))
    go false e = refl

pub number-same : (z : ℤ) → is_number (Some z) z ≡ true
number-same (pos n) = grind (arith, nat_tests)
number-same (negsuc n) = grind (arith, nat_tests)

pub number-other : (a z : ℤ) → a ≢ z → is_number (Some a) z ≡ false
number-other (pos n) (pos m) h = go (n == m) refl
  where
    go : (b : Bool) → (n == m) ≡ b → b ≡ false
    go true e = absurd (h (ap pos (eqb-true n m e)))
    go false e = refl
number-other (pos n) (negsuc m) h = refl
number-other (negsuc n) (pos m) h = refl
number-other (negsuc n) (negsuc m) h = go (n == m) refl
  where
    go : (b : Bool) → (n == m) ≡ b → b ≡ false
    go true e = absurd (h (ap negsuc (eqb-true n m e)))
    go false e = refl

pub ruleset numbers = (number-least, number-negative, number-positive, literal-other, number-same, number-other)
