-- The numbers of enumerators: those without a written one take, in order, the least that are not written.
use Rattle.std.proofs.Common.{◌≡◌, ℕ, suc, ◌+◌, ◌-◌, ◌*◌, ◌^◌, ◌≤◌, ◌<◌, Bool, true, false, List, [], ◌∷◌, ◌++◌, length, take, get_or, map, None, ℤ, pos, refl, sym, ap, ◌∙◌, arith, append_assoc, append-nil, length-append, subst, if◌then◌else◌}
use Rattle.std.specs.List.{list_any, list_all, flat_map}
use Rattle.std.specs.Ordering.{int_eq}
use Rattle.std.proofs.lemmas.List.{take_more, flat_map_more, length-map}
use Rattle.og_types.specs.Table.{in_64_bits}
use Rattle.og_names.proofs.Truths.{both_first, both_second}
use Rattle.og_names.proofs.Loops.{Left, left_first, left_more, left_all}
use Rattle.og_flat.specs.declared.flat.Enumerator.{Enumerator}
use Rattle.og_dataview.specs.Met.{AreMet}
use Rattle.og_dataview.specs.Violations.{given, is_given}
use Rattle.og_dataview.specs.View.{least_free, numbers_by, numbers_from, enumerator_numbers}
use Rattle.og_datatypes.specs.Kept.{in_64_bits_or_0}
use Rattle.og_datatypes.proofs.Distinct.{numbers_fit, long_as}

-- ---- the numbers that are written

pub record Noted (items : List Enumerator) (i : ℕ) (keys : List ℤ) (count : ℕ) : Type 0 where
  pub is : AreMet (flat_map given (take i items)) keys
  pub long : count ≡ length (flat_map given (take i items))
  pub few : count ≤ i

given_more : (items : List Enumerator) (i : ℕ) (e : Enumerator) → i < length items → e ≡ get_or items i e → flat_map given (take i items) ++ given e ≡ flat_map given (take (i + 1) items)
given_more items i e lt at =
    flat_map_more given [] (take i items) e ∙ ap (λ x. flat_map given (take i items ++ x ∷ [])) at ∙ ap (flat_map given) (sym (take_more items i e lt))

pub noted_first : (items : List Enumerator) (keys : List ℤ) → keys ≡ [] → Noted items 0 keys 0
noted_first items keys none = record { is = record { has = λ z. ap (list_any (int_eq z)) none }; long = refl; few = omega arith }

pub noted_more : (items : List Enumerator) (i : ℕ) (e : Enumerator) (old new : List ℤ) (count next : ℕ) → i < length items → e ≡ get_or items i e
    → ((earlier : List ℤ) → AreMet earlier old → AreMet (earlier ++ given e) new) → next ≡ count + length (given e) → next ≤ count + 1 → Noted items i old count → Noted items (i + 1) new next
noted_more items i e old new count next lt at met more one before = record {
  is = subst (λ zs. AreMet zs new) (given_more items i e lt at) (met (flat_map given (take i items)) before.is);
  long = more ∙ ap (λ n. n + length (given e)) before.long ∙ sym (length-append (flat_map given (take i items)) (given e)) ∙ ap length (given_more items i e lt at);
  few = omega (arith, one, before.few);
}

pub ruleset givens = (noted_first, noted_more)

-- ---- the search

pub record Searching (keys : List ℤ) (count from left : ℕ) : Type 0 where
  pub is : (numbers : List ℤ) → AreMet numbers keys → least_free numbers (count - left) (from + left) ≡ least_free numbers count from

pub searching_first : (keys : List ℤ) (count from : ℕ) → Searching keys count from 0
searching_first keys count from =
    let z : count - 0 ≡ count = omega arith in
    let f : from + 0 ≡ from = omega arith in
    record { is = λ numbers met. ap (λ n. least_free numbers n (from + 0)) z ∙ ap (least_free numbers count) f }

one_step : (numbers : List ℤ) (n m free : ℕ) → n ≡ suc m → least_free numbers n free ≡ (if is_given numbers (pos free) then least_free numbers m (suc free) else free)
one_step numbers n m free e = ap (λ k. least_free numbers k free) e

pub searching_more : (keys : List ℤ) (count from left free : ℕ) (b : Bool) → left < count → free ≡ from + left → ((numbers : List ℤ) → AreMet numbers keys → b ≡ is_given numbers (pos free)) → b ≡ true
    → Searching keys count from left → Searching keys count from (left + 1)
searching_more keys count from left free b lt at test there before =
    let m : count - left ≡ suc (count - (left + 1)) = omega (arith, lt) in
    let n : from + (left + 1) ≡ suc free = omega (arith, at) in
    record {
      is = λ numbers met. ap (least_free numbers (count - (left + 1))) n
          ∙ ap (λ c. if c then least_free numbers (count - (left + 1)) (suc free) else free) (sym there ∙ test numbers met)
          ∙ sym (one_step numbers (count - left) (count - (left + 1)) free m) ∙ ap (least_free numbers (count - left)) at ∙ before.is numbers met;
    }

pub searching_found : (keys : List ℤ) (count from left free : ℕ) (b : Bool) → left < count → free ≡ from + left → ((numbers : List ℤ) → AreMet numbers keys → b ≡ is_given numbers (pos free)) → b ≡ false
    → Searching keys count from left → (numbers : List ℤ) → AreMet numbers keys → free ≡ least_free numbers count from
searching_found keys count from left free b lt at test absent before numbers met =
    let m : count - left ≡ suc (count - (left + 1)) = omega (arith, lt) in
    ap (λ c. if c then least_free numbers (count - (left + 1)) (suc free) else free) (sym absent ∙ test numbers met)
    ∙ sym (one_step numbers (count - left) (count - (left + 1)) free m) ∙ ap (least_free numbers (count - left)) at ∙ before.is numbers met

pub searching_all : (keys : List ℤ) (count from left free : ℕ) → count ≤ left → left ≤ count → free ≡ from + count → Searching keys count from left → (numbers : List ℤ) → AreMet numbers keys
    → free ≡ least_free numbers count from
searching_all keys count from left free le ge e before numbers met =
    let z : count - left ≡ 0 = omega (arith, le) in
    let f : free ≡ from + left = omega (arith, le, ge, e) in
    f ∙ ap (λ n. least_free numbers n (from + left)) (sym z) ∙ before.is numbers met

pub ruleset searching = (searching_first, searching_more, searching_found, searching_all)

-- an enumerator without a written number
pub next_free : (numbers : List ℤ) (k count free next : ℕ) (more : ℕ → List ℤ) → count ≡ length numbers → free ≡ least_free numbers count k → next ≡ free + 1
    → numbers_by numbers k None more ≡ pos free ∷ more next
next_free numbers k count free next more long is e =
    let n : suc free ≡ next = omega (arith, e) in
    let f : least_free numbers (length numbers) k ≡ free = sym (is ∙ ap (λ m. least_free numbers m k) long) in
    ap (λ g. pos g ∷ more (suc g)) f ∙ ap (λ m. pos free ∷ more m) n

pub ruleset next_is = (next_free)

-- ---- all numbers

abbrev numbers_left : List Enumerator → List ℤ → ℕ → List Enumerator → List ℤ
numbers_left items so_far k es = so_far ++ map in_64_bits_or_0 (numbers_from (flat_map given items) k es)

pub record Numbering (items : List Enumerator) (i k : ℕ) (so_far : List ℤ) : Type 0 where
  pub left : Left (numbers_left items so_far k) items i (map in_64_bits_or_0 (enumerator_numbers items))
  pub bound : k ≤ i * 2 ^ 33

pub numbering_first : (items : List Enumerator) → Numbering items 0 0 []
numbering_first items = record { left = left_first (numbers_left items [] 0) items; bound = omega arith }

pub numbering_more : (items : List Enumerator) (i : ℕ) (e : Enumerator) (z : ℤ) (k next count : ℕ) (old new keys : List ℤ) → i < length items → e ≡ get_or items i e
    → AreMet (flat_map given items) keys → count ≡ length (flat_map given items)
    → ((numbers : List ℤ) → AreMet numbers keys → count ≡ length numbers → (more : ℕ → List ℤ) → numbers_by numbers k e.number more ≡ z ∷ more next)
    → next ≤ k + 2 ^ 32 → new ≡ old ++ in_64_bits_or_0 z ∷ [] → Numbering items i k old → Numbering items (i + 1) next new
numbering_more items i e z k next count old new keys lt at met long number bound more before = record {
  left = left_more (numbers_left items old k) (numbers_left items new next) items i e _ lt at
      (λ es. ap (λ zs. old ++ map in_64_bits_or_0 zs) (number (flat_map given items) met long (λ n. numbers_from (flat_map given items) n es))
      ∙ sym (append_assoc old (in_64_bits_or_0 z ∷ []) (map in_64_bits_or_0 (numbers_from (flat_map given items) next es)))
      ∙ ap (λ zs. zs ++ map in_64_bits_or_0 (numbers_from (flat_map given items) next es)) (sym more)) before.left;
  bound = omega (arith, bound, before.bound);
}

pub numbering_all : (items : List Enumerator) (i k : ℕ) (so_far : List ℤ) → length items ≤ i → Numbering items i k so_far → so_far ≡ map in_64_bits_or_0 (enumerator_numbers items)
numbering_all items i k so_far le before = sym (append-nil so_far) ∙ left_all (numbers_left items so_far k) items i _ le before.left

pub ruleset numberings = (numbering_first, numbering_more, numbering_all)

pub all_fit : (items : List Enumerator) (numbers : List ℤ) → numbers ≡ map in_64_bits_or_0 (enumerator_numbers items) → length items < 2 ^ 32 → list_all in_64_bits (flat_map given items) ≡ true
    → numbers ≡ enumerator_numbers items
all_fit items numbers is few fit = is ∙ same (enumerator_numbers items) (numbers_fit items few fit)
  where
    same : (zs : List ℤ) → list_all in_64_bits zs ≡ true → map in_64_bits_or_0 zs ≡ zs
    same [] h = refl
    same (z ∷ zs) h = let fit : in_64_bits z ≡ true = both_first _ _ h in λ i. (if fit i then z else pos 0) ∷ same zs (both_second _ _ h) i

pub few_numbers : (items : List Enumerator) → length items < 2 ^ 32 → length (map in_64_bits_or_0 (enumerator_numbers items)) < 2 ^ 32
few_numbers items few = omega (arith, few, length-map (enumerator_numbers items) in_64_bits_or_0, long_as (flat_map given items) 0 items)
