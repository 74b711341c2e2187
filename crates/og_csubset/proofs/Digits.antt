-- The decimal of a number is one of digits.
use Rattle.std.proofs.Common.{◌≡◌, ℕ, zero, suc, ◌+◌, ◌<◌, List, [], ◌∷◌, Bool, true, false, cond, ◌&&◌, ◌==◌, refl, ap, ◌∙◌, arith, ◌%◌, ◌/◌}
use Rattle.std.specs.Prelude.{decimal}
use Rattle.std.specs.Fmt.{digits, digits_onto, digit_glyph}
use Rattle.std.specs.List.{list_all}
use Rattle.std.proofs.lemmas.Bool.{lt-ltb}
use Rattle.std.proofs.lemmas.Bool.Decides.{nat_tests}
use Rattle.og_csubset.specs.Tokens.{is_digit}

glyph_is_digit : (d : ℕ) → d < 10 → is_digit (digit_glyph false d) ≡ true
glyph_is_digit d less = ap is_digit (ap (λ b. cond b (48 + d) (87 + d)) (lt-ltb d 10 less)) ∙ between
  where
    between : is_digit (48 + d) ≡ true
    between = grind (arith, nat_tests)

all_digits : (k n : ℕ) (rest : List ℕ) → list_all is_digit rest ≡ true → list_all is_digit (digits_onto k 10 false n rest) ≡ true
all_digits zero n rest h = h
all_digits (suc k) n rest h = by_test (n / 10 == 0) (λ more. all_digits k (n / 10) (digit_glyph false (n % 10) ∷ rest) more)
  where
    here : list_all is_digit (digit_glyph false (n % 10) ∷ rest) ≡ true
    here = ap (λ b. b && list_all is_digit rest) (glyph_is_digit (n % 10) (omega arith)) ∙ h

    by_test : (b : Bool)
        → (list_all is_digit (digit_glyph false (n % 10) ∷ rest) ≡ true → list_all is_digit (digits_onto k 10 false (n / 10) (digit_glyph false (n % 10) ∷ rest)) ≡ true)
        → list_all is_digit (cond b (digit_glyph false (n % 10) ∷ rest) (digits_onto k 10 false (n / 10) (digit_glyph false (n % 10) ∷ rest))) ≡ true
    by_test true more = here
    by_test false more = more here

pub decimal_digits : (n : ℕ) → list_all is_digit (decimal n) ≡ true
unfolding digits
decimal_digits n = all_digits 64 n [] refl
