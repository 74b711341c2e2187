-- Sets of kinds.
use Rattle.std.proofs.Common.{◌≡◌, ◌≢◌, ℕ, ◌<◌, ◌+◌, ◌%◌, ◌^◌, min, max, Bool, true, false, ◌⊎◌, inl, inr, refl, sym, ap, ◌∙◌, nat_eq, cond, arith}
use Rattle.std.specs.Prelude.{bit_and, bit_or, bit_xor}
use Rattle.std.specs.Int.{bit_at}
use Rattle.std.proofs.lemmas.Nat.Bits.{bit_at_or, bit_at_and, bit_at_xor, bit_at-lt, bit_at-pow_same, bit_at-pow_other, bit_at-zero}
use Rattle.std.proofs.lemmas.Bool.Decides.{nat_tests}
use Rattle.og_grammar.specs.Predictive.{has, without, is_within, are_apart}

pub is_same : (a b : ℕ) → nat_eq a b ≡ true → a ≡ b
is_same a b h = grind (arith, nat_tests)

pub same_is : (a b : ℕ) → a ≡ b → nat_eq a b ≡ true
same_is a b h = grind (arith, nat_tests)

pub bit_of : (set k : ℕ) → has set k ≡ true → bit_at set k ≡ 1
bit_of set k h = is_same (bit_at set k) 1 h

pub has_of : (set k : ℕ) → bit_at set k ≡ 1 → has set k ≡ true
has_of set k h = same_is (bit_at set k) 1 h

pub has-or_left : (a b k : ℕ) → has a k ≡ true → has (bit_or a b) k ≡ true
has-or_left a b k h =
    let one : bit_at a k ≡ 1 = bit_of a k h in
    let two : bit_at b k < 2 = bit_at-lt b k in
    let both : bit_at (bit_or a b) k ≡ max (bit_at a k) (bit_at b k) = bit_at_or a b k in
    has_of (bit_or a b) k (omega arith)

pub has-or_right : (a b k : ℕ) → has b k ≡ true → has (bit_or a b) k ≡ true
has-or_right a b k h =
    let one : bit_at b k ≡ 1 = bit_of b k h in
    let two : bit_at a k < 2 = bit_at-lt a k in
    let both : bit_at (bit_or a b) k ≡ max (bit_at a k) (bit_at b k) = bit_at_or a b k in
    has_of (bit_or a b) k (omega arith)

pub not_same : (a b : ℕ) → nat_eq a b ≡ false → a ≢ b
not_same a b h = grind (arith, nat_tests)

in_other : (a b k : ℕ) (here : Bool) → has a k ≡ here → has (bit_or a b) k ≡ true → (has a k ≡ true) ⊎ (has b k ≡ true)
in_other a b k true e h = inl e
in_other a b k false e h =
    let one : bit_at (bit_or a b) k ≡ 1 = bit_of (bit_or a b) k h in
    let both : bit_at (bit_or a b) k ≡ max (bit_at a k) (bit_at b k) = bit_at_or a b k in
    let left : bit_at a k < 2 = bit_at-lt a k in
    let right : bit_at b k < 2 = bit_at-lt b k in
    let not_left : bit_at a k ≢ 1 = not_same (bit_at a k) 1 e in
    inr (has_of b k (omega arith))

pub in_either : (a b k : ℕ) → has (bit_or a b) k ≡ true → (has a k ≡ true) ⊎ (has b k ≡ true)
in_either a b k h = in_other a b k (has a k) refl h

pub none : (k : ℕ) → has 0 k ≡ false
none k = ap (λ (n : ℕ). nat_eq n 1) (bit_at-zero k)

pub within_has : (a b k : ℕ) → is_within a b ≡ true → has a k ≡ true → has b k ≡ true
within_has a b k w h =
    let e : bit_or a b ≡ b = is_same (bit_or a b) b w in
    ap (λ (n : ℕ). has n k) (sym e) ∙ has-or_left a b k h

pub apart_has : (a b k : ℕ) → are_apart a b ≡ true → has a k ≡ true → has b k ≡ false
apart_has a b k w h =
    let e : bit_and a b ≡ 0 = is_same (bit_and a b) 0 w in
    let one : bit_at a k ≡ 1 = bit_of a k h in
    let two : bit_at (bit_and a b) k ≡ min (bit_at a k) (bit_at b k) = bit_at_and a b k in
    let zero_at : bit_at (bit_and a b) k ≡ 0 = ap (λ (n : ℕ). bit_at n k) e ∙ bit_at-zero k in
    let none_here : bit_at b k ≡ 0 = omega arith in
    ap (λ (n : ℕ). nat_eq n 1) none_here

pub has-pow : (k : ℕ) → has (2 ^ k) k ≡ true
has-pow k = has_of (2 ^ k) k (bit_at-pow_same k)

xor_other : (a b : ℕ) → a ≡ 1 → b ≡ 0 → (a + b) % 2 ≡ 1
xor_other a b p q = ap (λ (x : ℕ). (x + b) % 2) p ∙ ap (λ (y : ℕ). (1 + y) % 2) q

pub has-without : (set k j : ℕ) → j ≢ k → has set j ≡ true → has (without set k) j ≡ true
has-without set k j ne h = elim (has set k) as (λ b. has (cond b (bit_xor set (2 ^ k)) set) j ≡ true) [
  | true ↦ has_of (bit_xor set (2 ^ k)) j (bit_at_xor set (2 ^ k) j ∙ xor_other (bit_at set j) (bit_at (2 ^ k) j) (bit_of set j h) (bit_at-pow_other k j ne))
  | false ↦ h
]

xor_none : (a b : ℕ) → a ≡ 0 → b ≡ 0 → (a + b) % 2 ≡ 0
xor_none a b p q = ap (λ (x : ℕ). (x + b) % 2) p ∙ ap (λ (y : ℕ). (0 + y) % 2) q

xor_both : (a b : ℕ) → a ≡ 1 → b ≡ 1 → (a + b) % 2 ≡ 0
xor_both a b p q = ap (λ (x : ℕ). (x + b) % 2) p ∙ ap (λ (y : ℕ). (1 + y) % 2) q

-- where the bit j of a set is not there, it is not there without k
stays_out : (set k j : ℕ) (there same : Bool) → has set k ≡ there → nat_eq j k ≡ same → has set j ≡ false → has (without set k) j ≡ false
stays_out set k j false same e f h = ap (λ (b : Bool). has (cond b (bit_xor set (2 ^ k)) set) j) e ∙ h
stays_out set k j true true e f h =
    let same : j ≡ k = is_same j k f in
    let clash : has set j ≡ true = ap (has set) same ∙ e in
    absurd cc
stays_out set k j true false e f h =
    let ne : j ≢ k = not_same j k f in
    let not_one : bit_at set j ≢ 1 = not_same (bit_at set j) 1 h in
    let small : bit_at set j < 2 = bit_at-lt set j in
    let zero_at : bit_at set j ≡ 0 = omega arith in
    ap (λ (b : Bool). has (cond b (bit_xor set (2 ^ k)) set) j) e
    ∙ ap (λ (n : ℕ). nat_eq n 1) (bit_at_xor set (2 ^ k) j ∙ xor_none (bit_at set j) (bit_at (2 ^ k) j) zero_at (bit_at-pow_other k j ne))

in_with : (set k j : ℕ) (there : Bool) → has set j ≡ there → has (without set k) j ≡ true → has set j ≡ true
in_with set k j true e h = e
in_with set k j false e h = let out = stays_out set k j (has set k) (nat_eq j k) refl refl e in absurd cc

-- what is in a set without k is in the set
pub without_has : (set k j : ℕ) → has (without set k) j ≡ true → has set j ≡ true
without_has set k j h = in_with set k j (has set j) refl h

taken_out : (set k : ℕ) (there : Bool) → has set k ≡ there → has (without set k) k ≡ false
taken_out set k false e = ap (λ (b : Bool). has (cond b (bit_xor set (2 ^ k)) set) k) e ∙ e
taken_out set k true e =
    ap (λ (b : Bool). has (cond b (bit_xor set (2 ^ k)) set) k) e
    ∙ ap (λ (n : ℕ). nat_eq n 1) (bit_at_xor set (2 ^ k) k ∙ xor_both (bit_at set k) (bit_at (2 ^ k) k) (bit_of set k e) (bit_at-pow_same k))

pub never_in : (set k : ℕ) → has (without set k) k ≡ false
never_in set k = taken_out set k (has set k) refl
