-- Decimal numbers as texts.
use Rattle.std.proofs.Common.{◌≡◌, ℕ, suc, ◌+◌, ◌-◌, ◌*◌, ◌/◌, ◌%◌, ◌^◌, ◌<◌, ◌≤◌, Bool, true, false, ℤ, pos, negsuc, neg_ℤ, int_le, List, [], ◌∷◌, ◌++◌, refl, ap, ◌∙◌, arith}
use Rattle.std.specs.List.{list_all}
use Rattle.std.specs.Fmt.{decimal, signed_decimal}
use Rattle.std.proofs.lemmas.Bool.{false≢true, leb-true, le-leb}
use Rattle.std.proofs.lemmas.Fmt.{decimal_by_steps}
use Rattle.og_names.proofs.Truths.{both_true, both_first, both_second}
use Rattle.og_value.specs.Bytes.{is_digit, number_from, number_of}
use Rattle.og_types.specs.Values.{is_between}
use Rattle.og_types.specs.Table.{in_64_bits}
use Rattle.og_value.specs.Forms.{Number, IsDigits, Spells, is_number, is_negative}
use Rattle.og_value.specs.Reads.{integer}
use Rattle.og_value.proofs.Fronts.{begins_front}

number_snoc : (n : ℕ) (ds : List ℕ) (d : ℕ) → number_from n (ds ++ d ∷ []) ≡ 10 * number_from n ds + (d - 48)
number_snoc n [] d = refl
number_snoc n (x ∷ ds) d = number_snoc (10 * n + (x - 48)) ds d

digit_is : (k : ℕ) → k < 10 → is_digit (48 + k) ≡ true
digit_is k h = both_true _ _ (le-leb 48 (48 + k) (omega arith)) (le-leb (48 + k) 57 (omega (arith, h)))

all_snoc : (p : ℕ → Bool) (xs : List ℕ) (x : ℕ) → list_all p xs ≡ true → p x ≡ true → list_all p (xs ++ x ∷ []) ≡ true
all_snoc p [] x h k = both_true _ _ k refl
all_snoc p (y ∷ xs) x h k = both_true _ _ (both_first _ _ h) (all_snoc p xs x (both_second _ _ h) k)

-- the digits of a number
pub record AreDigitsOf (n : ℕ) (ds : List ℕ) : Type 0 where
  pub digits : IsDigits ds
  pub number : number_of ds ≡ n

one_digit : (n : ℕ) → n < 10 → AreDigitsOf n ((48 + n) ∷ [])
one_digit n h = record {
  digits = record { some = digit_is n h; all = both_true _ _ (digit_is n h) refl };
  number = omega arith;
}

one_more : (n : ℕ) (ds : List ℕ) → 10 ≤ n → AreDigitsOf (n / 10) ds → AreDigitsOf n (ds ++ (48 + n % 10) ∷ [])
one_more n ds h are =
    let last : n % 10 < 10 = omega arith in
    record {
      digits = record {
        some = begins_front is_digit ds _ are.digits.some;
        all = all_snoc is_digit ds (48 + n % 10) are.digits.all (digit_is (n % 10) last);
      };
      number = number_snoc 0 ds (48 + n % 10) ∙ omega (arith, are.number);
    }

pub decimal_digits : (n : ℕ) → n < 2 ^ 64 → AreDigitsOf n (decimal n)
decimal_digits n h = decimal_by_steps AreDigitsOf one_digit one_more n h

-- ---- numbers of 64 bits

within_above : (hi : ℤ) (n : ℕ) → int_le (pos n) hi ≡ true → int_le hi (pos 9223372036854775807) ≡ true → n < 2 ^ 64
within_above (pos h) n a b = omega (arith, leb-true n h a, leb-true h 9223372036854775807 b)
within_above (negsuc h) n a b = absurd (false≢true a)

within_below : (lo : ℤ) (n : ℕ) → int_le lo (negsuc n) ≡ true → int_le (negsuc 9223372036854775807) lo ≡ true → suc n < 2 ^ 64
within_below (pos l) n a b = absurd (false≢true a)
within_below (negsuc l) n a b = omega (arith, leb-true n l a, leb-true l 9223372036854775807 b)

-- a form of a number that the digits spell
pub record IsNumberText (z : ℤ) (text : List ℕ) : Type 0 where
  pub negative : Bool
  pub digits : List ℕ
  pub spelt : Spells (Number negative digits) text
  pub is : integer negative digits ≡ z

pub number_text : (lo hi z : ℤ) → in_64_bits lo ≡ true → in_64_bits hi ≡ true → is_between lo hi z ≡ true → IsNumberText z (signed_decimal z)
number_text lo hi (pos n) l h between =
    let are = decimal_digits n (within_above hi n (both_second _ _ between) (both_second _ _ h)) in
    record { negative = false; digits = decimal n; spelt = is_number (decimal n) are.digits; is = ap pos are.number }
number_text lo hi (negsuc n) l h between =
    let are = decimal_digits (suc n) (within_below lo n (both_first _ _ between) (both_first _ _ l)) in
    record { negative = true; digits = decimal (suc n); spelt = is_negative [] (decimal (suc n)) refl are.digits; is = ap (λ m. neg_ℤ (pos m)) are.number }
