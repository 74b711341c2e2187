-- The number of a run of digits, and when it is written as it is printed.
use Rattle.std.proofs.Common.{◌≡◌, ℕ, ◌+◌, ◌-◌, ◌*◌, ◌^◌, ◌<◌, ◌≤◌, Bool, true, false, cond, ◌&&◌, min, List, [], ◌∷◌, length, get_or, drop, Some, None, refl, sym, ap, ◌∙◌, arith, decimal, bytes_eq, nat_lt, lt-ltb, le-ltb, ltb-true, ⊎_elim}
use Rattle.std.specs.List.{list_all}
use Rattle.std.specs.Char.{digit_value}
use Rattle.std.specs.Str.Parse.{digits_value_after, digits_value}
use Rattle.std.proofs.lemmas.Bool.{and_parts, true≢false, cases_lt}
use Rattle.std.proofs.lemmas.List.{at_drop_more}
use Rattle.std.proofs.lemmas.Slice.Eq.{bytes_eq-Decides}
use Rattle.std.proofs.lemmas.Fmt.{decimal-digits_value, decimal_digit, first_decimal}
use Rattle.og_csubset.specs.Tokens.{number, is_digit}
use Rattle.og_csubset.specs.Lexing.{number_token}
use Rattle.og_csubset.proofs.Lexing.{own, digit_from}

-- numbers that are equal up to a limit stay so when digits follow
pub after-capped : (limit m n : ℕ) (bs : List ℕ) → min m limit ≡ min n limit → min (digits_value_after 10 m bs) limit ≡ min (digits_value_after 10 n bs) limit
after-capped limit m n [] same = same
after-capped limit m n (b ∷ bs) same = after-capped limit (m * 10 + digit_value b) (n * 10 + digit_value b) bs (omega arith)

pub value_of_digit : (b : ℕ) → is_digit b ≡ true → digit_value b ≡ b - 48
value_of_digit b h =
    let r = digit_from b h in
    let below : b < 58 = omega arith in
    rw (le-ltb b 48 r.0, lt-ltb b 58 below)

pub all-drop : (i : ℕ) (bs : List ℕ) → i < length bs → list_all is_digit (drop i bs) ≡ true → (is_digit (get_or bs i 0) ≡ true) × (list_all is_digit (drop (i + 1) bs) ≡ true)
all-drop i bs inside h = and_parts (is_digit (get_or bs i 0)) (list_all is_digit (drop (i + 1) bs)) (sym (at_drop_more (list_all is_digit) bs i 0 inside) ∙ h)

-- one digit more
pub after-drop : (n i : ℕ) (bs : List ℕ) → i < length bs → is_digit (get_or bs i 0) ≡ true
    → digits_value_after 10 n (drop i bs) ≡ digits_value_after 10 (n * 10 + (get_or bs i 0 - 48)) (drop (i + 1) bs)
after-drop n i bs inside digit =
    at_drop_more (digits_value_after 10 n) bs i 0 inside ∙ ap (λ d. digits_value_after 10 (n * 10 + d) (drop (i + 1) bs)) (value_of_digit (get_or bs i 0) digit)

-- the three ways of a run of digits
pub leading_zero : (ds : List ℕ) → 1 < length ds → get_or ds 0 0 ≡ 48 → number_token ds ≡ None
unfolding number_token
leading_zero ds more zero = go (bytes_eq (decimal (digits_value 10 ds)) ds) (nat_lt (digits_value 10 ds) (2 ^ 63)) refl refl
  where
    never : decimal (digits_value 10 ds) ≡ ds → digits_value 10 ds < 2 ^ 63 → ⊥
    never same small = ⊎_elim
        (λ some. omega (arith, first_decimal (digits_value 10 ds) some (omega (arith, small)), ap (λ l. get_or l 0 0) same, zero))
        (λ none. omega (arith, ap length (sym (decimal_digit (digits_value 10 ds) (omega (arith, none))) ∙ same), more))
        (cases_lt 0 (digits_value 10 ds))

    go : (c d : Bool) → bytes_eq (decimal (digits_value 10 ds)) ds ≡ c → nat_lt (digits_value 10 ds) (2 ^ 63) ≡ d
        → cond (c && d) (Some (number (digits_value 10 ds))) None ≡ None
    go true true e k = absurd (never ((bytes_eq-Decides (decimal (digits_value 10 ds)) ds).0 e) (ltb-true (digits_value 10 ds) (2 ^ 63) k))
    go true false e k = refl
    go false d e k = refl

pub too_large : (ds : List ℕ) → 2 ^ 63 ≤ digits_value 10 ds → number_token ds ≡ None
unfolding number_token
too_large ds h = go (bytes_eq (decimal (digits_value 10 ds)) ds) (nat_lt (digits_value 10 ds) (2 ^ 63)) (le-ltb (digits_value 10 ds) (2 ^ 63) h)
  where
    go : (c d : Bool) → d ≡ false → cond (c && d) (Some (number (digits_value 10 ds))) None ≡ None
    go c true k = absurd (true≢false k)
    go true false k = refl
    go false false k = refl

pub canonical : (ds : List ℕ) → list_all is_digit ds ≡ true → 0 < length ds → (get_or ds 0 0 ≡ 48 → length ds ≡ 1) → digits_value 10 ds < 2 ^ 63
    → number_token ds ≡ Some (number (digits_value 10 ds))
unfolding number_token
canonical ds all some first h =
    let small : digits_value 10 ds < 2 ^ 64 = omega (arith, h) in
    let same : decimal (digits_value 10 ds) ≡ ds = decimal-digits_value own ds all some first small in
    rw ((bytes_eq-Decides (decimal (digits_value 10 ds)) ds).1 same, lt-ltb (digits_value 10 ds) (2 ^ 63) h)

pub ruleset numerals = (leading_zero, too_large, canonical)

pub ruleset values = (after-capped, after-drop, all-drop)
