-- The numbers of enumerators are in 64 bits, and no two are the same, where this holds of those that are written.
use Rattle.std.proofs.Common.{◌≡◌, ℕ, zero, suc, ◌+◌, ◌^◌, ◌≤◌, ◌<◌, Bool, true, false, not, ◌&&◌, ◌||◌, List, [], ◌∷◌, ◌++◌, length, Option, Some, None, ℤ, pos, negsuc, nat_abs, int_le, nat_le, refl, sym, ap, ◌∙◌, arith, subst, length-append, true≢false, if◌then◌else◌}
use Rattle.std.specs.List.{list_any, list_all, flat_map}
use Rattle.std.specs.Ordering.{int_eq}
use Rattle.std.proofs.lemmas.Bool.{leb-true, le-leb}
use Rattle.std.proofs.lemmas.Bool.Decides.{Decides-int_eq}
use Rattle.std.proofs.lemmas.List.Folds.{list_all-append, list_any-append}
use Rattle.og_types.specs.Table.{in_64_bits, all_differ}
use Rattle.og_names.proofs.Truths.{both_true, both_first, both_second, neither_first, neither_second, neither_true, not_true, either_first, either_second}
use Rattle.og_asn1.specs.declared.syntax.Name.{Name}
use Rattle.og_flat.specs.declared.flat.Enumerator.{Enumerator}
use Rattle.og_flat.specs.declared.flat.Written.{Written}
use Rattle.og_dataview.specs.Following.{as_number}
use Rattle.og_dataview.specs.Violations.{given, is_given}
use Rattle.og_dataview.specs.View.{least_free, numbers_by, numbers_from, enumerator_numbers}

-- ---- how many written numbers are still ahead

abbrev pub bit : Bool → ℕ
bit true = 1
bit false = 0

abbrev pub ahead : ℕ → List ℤ → ℕ
ahead k [] = 0
ahead k (z ∷ zs) = bit (int_le (pos k) z) + ahead k zs

ahead_all : (k : ℕ) (zs : List ℤ) → ahead k zs ≤ length zs
ahead_all k [] = omega arith
ahead_all k (z ∷ zs) = by (int_le (pos k) z) (ahead_all k zs)
  where
    by : (b : Bool) → ahead k zs ≤ length zs → bit b + ahead k zs ≤ suc (length zs)
    by true rest = omega (arith, rest)
    by false rest = omega (arith, rest)

-- what is at least k + 1 is at least k
one_on : (k : ℕ) (z : ℤ) → bit (int_le (pos (suc k)) z) ≤ bit (int_le (pos k) z)
one_on k (negsuc n) = omega arith
one_on k (pos n) = by (nat_le (suc k) n) (nat_le k n) (λ h. le-leb k n (let lt : suc k ≤ n = leb-true (suc k) n h in omega (arith, lt)))
  where
    by : (a b : Bool) → (a ≡ true → b ≡ true) → bit a ≤ bit b
    by false b h = omega arith
    by true true h = omega arith
    by true false h = absurd (true≢false (sym (h refl)))

ahead_less : (k : ℕ) (zs : List ℤ) → ahead (suc k) zs ≤ ahead k zs
ahead_less k [] = omega arith
ahead_less k (z ∷ zs) = omega (arith, one_on k z, ahead_less k zs)

-- the number itself is ahead before it, and not behind it
itself : (k : ℕ) (z : ℤ) → pos k ≡ z → (bit (int_le (pos (suc k)) z) ≡ 0) × (bit (int_le (pos k) z) ≡ 1)
itself k z e = subst (λ y. (bit (int_le (pos (suc k)) y) ≡ 0) × (bit (int_le (pos k) y) ≡ 1)) e (ap (λ b. bit b) past, ap (λ b. bit b) (le-leb k k (omega arith)))
  where
    by : (b : Bool) → nat_le (suc k) k ≡ b → b ≡ false
    by false h = refl
    by true h = let lt : suc k ≤ k = leb-true (suc k) k h in absurd (omega (arith, lt))

    past : nat_le (suc k) k ≡ false
    past = by (nat_le (suc k) k) refl

fewer : (k : ℕ) (zs : List ℤ) → is_given zs (pos k) ≡ true → ahead (suc k) zs + 1 ≤ ahead k zs
fewer k [] h = absurd (true≢false (sym h))
fewer k (z ∷ zs) h = by (int_eq (pos k) z) refl h (fewer k zs)
  where
    by : (b : Bool) → int_eq (pos k) z ≡ b → (b || is_given zs (pos k)) ≡ true → (is_given zs (pos k) ≡ true → ahead (suc k) zs + 1 ≤ ahead k zs)
        → bit (int_le (pos (suc k)) z) + ahead (suc k) zs + 1 ≤ bit (int_le (pos k) z) + ahead k zs
    by true e g later = let s = itself k z ((Decides-int_eq (pos k) z).0 e) in omega (arith, s.0, s.1, ahead_less k zs)
    by false e g later = omega (arith, one_on k z, later g)

-- ---- one free number

pub record IsFree (numbers : List ℤ) (k free : ℕ) : Type 0 where
  pub not_given : is_given numbers (pos free) ≡ false
  pub from : k ≤ free
  pub near : free + ahead free numbers ≤ k + ahead k numbers

is_free_within : (numbers : List ℤ) (n k : ℕ) → ahead k numbers ≤ n → IsFree numbers k (least_free numbers n k)
is_free_within numbers zero k le = record { not_given = by (is_given numbers (pos k)) refl; from = omega arith; near = omega arith }
  where
    by : (b : Bool) → is_given numbers (pos k) ≡ b → b ≡ false
    by false h = refl
    by true h = let f = fewer k numbers h in absurd (omega (arith, f, le))
is_free_within numbers (suc n) k le = by (is_given numbers (pos k)) refl (is_free_within numbers n (suc k))
  where
    by : (b : Bool) → is_given numbers (pos k) ≡ b → (ahead (suc k) numbers ≤ n → IsFree numbers (suc k) (least_free numbers n (suc k)))
        → IsFree numbers k (if b then least_free numbers n (suc k) else k)
    by false h next = record { not_given = h; from = omega arith; near = omega arith }
    by true h next =
        let f = fewer k numbers h in
        let r = next (omega (arith, f, le)) in
        record { not_given = r.not_given; from = omega (arith, r.from); near = omega (arith, r.near, f) }

is_free : (numbers : List ℤ) (k : ℕ) → IsFree numbers k (least_free numbers (length numbers) k)
is_free numbers k = is_free_within numbers (length numbers) k (ahead_all k numbers)

-- ---- one enumerator

abbrev pub given_of : Option Written → List ℤ
given_of None = []
given_of (Some n) = as_number n ∷ []

given_by : (name : Name) (o : Option Written) → given (record { name = name; number = o }) ≡ given_of o
given_by name None = refl
given_by name (Some n) = refl

pub given_is : (e : Enumerator) → given e ≡ given_of e.number
given_is e = given_by e.name e.number

abbrev numbers_of : List ℤ → ℕ → Option Written → List Enumerator → List ℤ
numbers_of numbers k o es = numbers_by numbers k o (λ next. numbers_from numbers next es)

-- ---- as many as enumerators

pub long_as : (numbers : List ℤ) (k : ℕ) (es : List Enumerator) → length (numbers_from numbers k es) ≡ length es
long_as numbers k [] = refl
long_as numbers k (e ∷ es) = by e.number (λ n. long_as numbers n es)
  where
    by : (o : Option Written) → ((n : ℕ) → length (numbers_from numbers n es) ≡ length es) → length (numbers_of numbers k o es) ≡ suc (length es)
    by None rest = ap suc (rest (suc (least_free numbers (length numbers) k)))
    by (Some n) rest = ap suc (rest k)

-- ---- in 64 bits

fits_pos : (n : ℕ) → n < 2 ^ 63 → in_64_bits (pos n) ≡ true
fits_pos n lt = both_true _ _ refl (le-leb n 9223372036854775807 (omega (arith, lt)))

fits_from : (numbers : List ℤ) (k : ℕ) (es : List Enumerator) → list_all in_64_bits (flat_map given es) ≡ true → k + ahead k numbers + length es < 2 ^ 63
    → list_all in_64_bits (numbers_from numbers k es) ≡ true
fits_from numbers k [] fit few = refl
fits_from numbers k (e ∷ es) fit few = by e.number (ap (list_all in_64_bits) (sym (given_is e)) ∙ both_first _ _ parts) (λ n lt. fits_from numbers n es (both_second _ _ parts) lt)
  where
    parts : (list_all in_64_bits (given e) && list_all in_64_bits (flat_map given es)) ≡ true
    parts = sym (list_all-append in_64_bits (given e) (flat_map given es)) ∙ fit

    by : (o : Option Written) → list_all in_64_bits (given_of o) ≡ true → ((n : ℕ) → n + ahead n numbers + length es < 2 ^ 63 → list_all in_64_bits (numbers_from numbers n es) ≡ true)
        → list_all in_64_bits (numbers_of numbers k o es) ≡ true
    by None h rest =
        let f : IsFree numbers k (least_free numbers (length numbers) k) = is_free numbers k in
        let less = ahead_less (least_free numbers (length numbers) k) numbers in
        both_true _ _ (fits_pos (least_free numbers (length numbers) k) (omega (arith, f.near, few)))
        (rest (suc (least_free numbers (length numbers) k)) (omega (arith, f.near, less, few)))
    by (Some n) h rest = both_true _ _ (both_first _ _ h) (rest k (omega (arith, few)))

few_given : (es : List Enumerator) → length (flat_map given es) ≤ length es
few_given [] = omega arith
few_given (e ∷ es) = by e.number (ap length (given_is e)) (few_given es)
  where
    by : (o : Option Written) → length (given e) ≡ length (given_of o) → length (flat_map given es) ≤ length es → length (given e ++ flat_map given es) ≤ suc (length es)
    by None h rest = omega (arith, h, rest, length-append (given e) (flat_map given es))
    by (Some n) h rest = omega (arith, h, rest, length-append (given e) (flat_map given es))

pub numbers_fit : (items : List Enumerator) → length items < 2 ^ 32 → list_all in_64_bits (flat_map given items) ≡ true → list_all in_64_bits (enumerator_numbers items) ≡ true
numbers_fit items few fit = fits_from (flat_map given items) 0 items fit (omega (arith, few, few_given items, ahead_all 0 (flat_map given items)))

-- ---- no two are the same

pub false_unless : (b : Bool) → (b ≡ true → ⊥) → b ≡ false
false_unless true h = absurd (h refl)
false_unless false h = refl

pub not_false : (b : Bool) → b ≡ false → not b ≡ true
not_false true h = absurd (true≢false h)
not_false false h = refl

-- the number is none that will be taken from k on
abbrev Avoids : List ℤ → ℤ → ℕ → Type 0
Avoids numbers z k = (j : ℕ) → k ≤ j → is_given numbers (pos j) ≡ false → int_eq z (pos j) ≡ false

avoids : (numbers : List ℤ) (k : ℕ) (es : List Enumerator) (z : ℤ) → Avoids numbers z k → list_any (int_eq z) (flat_map given es) ≡ false → list_any (int_eq z) (numbers_from numbers k es) ≡ false
avoids numbers k [] z av none = refl
avoids numbers k (e ∷ es) z av none =
    by e.number (ap (list_any (int_eq z)) (sym (given_is e)) ∙ neither_first _ _ parts) (λ n on. avoids numbers n es z on (neither_second _ _ parts))
  where
    parts : (list_any (int_eq z) (given e) || list_any (int_eq z) (flat_map given es)) ≡ false
    parts = sym (list_any-append (int_eq z) (given e) (flat_map given es)) ∙ none

    by : (o : Option Written) → list_any (int_eq z) (given_of o) ≡ false → ((n : ℕ) → Avoids numbers z n → list_any (int_eq z) (numbers_from numbers n es) ≡ false)
        → list_any (int_eq z) (numbers_of numbers k o es) ≡ false
    by None h rest =
        let f : IsFree numbers k (least_free numbers (length numbers) k) = is_free numbers k in
        neither_true _ _ (av (least_free numbers (length numbers) k) f.from f.not_given)
        (rest (suc (least_free numbers (length numbers) k)) (λ j le. av j (omega (arith, le, f.from))))
    by (Some n) h rest = neither_true _ _ (neither_first _ _ h) (rest k av)

abbrev Among : List Enumerator → List ℤ → Type 0
Among es numbers = (z : ℤ) → list_any (int_eq z) (flat_map given es) ≡ true → is_given numbers z ≡ true

same_number : (z : ℤ) → int_eq z z ≡ true
same_number z = (Decides-int_eq z z).1 refl

given_avoids : (numbers : List ℤ) (z : ℤ) (k : ℕ) → is_given numbers z ≡ true → Avoids numbers z k
given_avoids numbers z k there j le none =
    false_unless (int_eq z (pos j)) (λ e. true≢false (sym there ∙ ap (is_given numbers) ((Decides-int_eq z (pos j)).0 e) ∙ none))

free_avoids : (numbers : List ℤ) (f : ℕ) → Avoids numbers (pos f) (suc f)
free_avoids numbers f j le none =
    false_unless (int_eq (pos f) (pos j)) (λ e. let same : f ≡ j = ap nat_abs ((Decides-int_eq (pos f) (pos j)).0 e) in absurd (omega (arith, same, le)))

differ_from : (numbers : List ℤ) (k : ℕ) (es : List Enumerator) → Among es numbers → all_differ int_eq (flat_map given es) ≡ true → all_differ int_eq (numbers_from numbers k es) ≡ true
differ_from numbers k [] among differ = refl
differ_from numbers k (e ∷ es) among differ =
    by e.number (λ z h. among z (ap (λ zs. list_any (int_eq z) (zs ++ flat_map given es)) (given_is e) ∙ h)) (ap (λ zs. all_differ int_eq (zs ++ flat_map given es)) (sym (given_is e)) ∙ differ)
    (λ n. differ_from numbers n es)
  where
    by : (o : Option Written) → ((z : ℤ) → list_any (int_eq z) (given_of o ++ flat_map given es) ≡ true → is_given numbers z ≡ true) → all_differ int_eq (given_of o ++ flat_map given es) ≡ true
        → ((n : ℕ) → Among es numbers → all_differ int_eq (flat_map given es) ≡ true → all_differ int_eq (numbers_from numbers n es) ≡ true)
        → all_differ int_eq (numbers_of numbers k o es) ≡ true
    by None among differ rest =
        let f : IsFree numbers k (least_free numbers (length numbers) k) = is_free numbers k in
        let free = least_free numbers (length numbers) k in
        both_true _ _
        (not_false _ (avoids numbers (suc free) es (pos free) (free_avoids numbers free)
        (false_unless (list_any (int_eq (pos free)) (flat_map given es)) (λ e. true≢false (sym (among (pos free) e) ∙ f.not_given)))))
        (rest (suc free) among differ)
    by (Some n) among differ rest =
        let z = as_number n in
        both_true _ _
        (not_false _ (avoids numbers k es z (given_avoids numbers z k (among z (either_first _ _ (same_number z)))) (not_true _ (both_first _ _ differ))))
        (rest k (λ y h. among y (either_second _ _ h)) (both_second _ _ differ))

pub numbers_differ : (items : List Enumerator) → all_differ int_eq (flat_map given items) ≡ true → all_differ int_eq (enumerator_numbers items) ≡ true
numbers_differ items differ = differ_from (flat_map given items) 0 items (λ z h. h) differ
