-- One level of a search in a table of types.
use Rattle.std.proofs.Common.{◌≡◌, ◌≤◌, ◌<◌, ℕ, zero, suc, ◌+◌, Bool, true, false, ◌&&◌, nat_eq, List, [], ◌∷◌, length, drop, get_or, slice_get, Option, Some, None, refl, sym, ap, ◌∙◌, arith}
use Rattle.std.proofs.lemmas.List.{at_drop_more, at_drop_all}
use Rattle.std.proofs.lemmas.Option.{none-some, get_or_from_slice_get, slice_get_within}
use Rattle.std.proofs.Math.Dec.{eqb-zero-suc, eqb-suc-suc}
use Rattle.og_types.specs.declared.TypeId.{TypeId}
use Rattle.og_types.specs.declared.Sort.{Sort}
use Rattle.og_types.specs.declared.Value.{Value, out-Value}
use Rattle.og_types.specs.declared.Part.{Part}
use Rattle.og_types.specs.Values.{in_within, in_sort, in_parts}

pub in_is : (depth inner : ℕ) (types : List Sort) (id : TypeId) (v : Value) (o : Option Sort) → depth ≡ suc inner → o ≡ slice_get types id.0
    → in_within depth types id v ≡ in_sort (in_within inner types) o (out-Value v)
in_is depth inner types id v o d e = ap (λ n. in_within n types id v) d ∙ ap (λ p. in_sort (in_within inner types) p (out-Value v)) (sym e)

-- ---- lists from a place on

pub there : {X A : Type 0} (go : List X → A) (xs : List X) (i : ℕ) (x : X) → Some x ≡ slice_get xs i → go (drop i xs) ≡ go (x ∷ drop (i + 1) xs)
there go xs i x e =
    at_drop_more go xs i x (slice_get_within xs i x (sym e)) ∙ ap (λ y. go (y ∷ drop (i + 1) xs)) (get_or_from_slice_get xs i x x (sym e))

pub drop_past : {X : Type 0} (xs : List X) (i : ℕ) → None ≡ slice_get xs i → drop i xs ≡ []
drop_past [] zero e = refl
drop_past [] (suc i) e = refl
drop_past (x ∷ xs) zero e = absurd (none-some x e)
drop_past (x ∷ xs) (suc i) e = drop_past xs i e

-- ---- components

-- what the components from the i-th on say, all say
pub record FitsOn (inside : TypeId → Value → Bool) (parts : List Part) (vs : List Value) (i : ℕ) (total : Bool) : Type 0 where
  pub is : in_parts inside (drop i parts) (drop i vs) ≡ total
  pub there : i ≤ length vs

pub fits_first : (inside : TypeId → Value → Bool) (parts : List Part) (vs : List Value) → FitsOn inside parts vs 0 (in_parts inside parts vs)
fits_first inside parts vs = record { is = refl; there = omega arith }

no_value : (inside : TypeId → Value → Bool) (parts : List Part) (i : ℕ) → i < length parts → in_parts inside (drop i parts) [] ≡ false
no_value inside [] i lt = absurd (omega (arith, lt))
no_value inside (p ∷ parts) zero lt = refl
no_value inside (p ∷ parts) (suc i) lt = no_value inside parts i (omega (arith, lt))

pub fits_none : (inside : TypeId → Value → Bool) (parts : List Part) (vs : List Value) (i : ℕ) (total : Bool)
    → i < length parts → None ≡ slice_get vs i → FitsOn inside parts vs i total → false ≡ total
fits_none inside parts vs i total lt none so_far =
    sym (ap (in_parts inside (drop i parts)) (drop_past vs i none) ∙ no_value inside parts i lt) ∙ so_far.is

both : (inside : TypeId → Value → Bool) (parts : List Part) (vs : List Value) (i : ℕ) (d : Part) (v : Value)
    → i < length parts → Some v ≡ slice_get vs i
    → in_parts inside (drop i parts) (drop i vs) ≡ (inside (get_or parts i d).sort v && in_parts inside (drop (i + 1) parts) (drop (i + 1) vs))
both inside parts vs i d v lt some =
    at_drop_more (λ ps. in_parts inside ps (drop i vs)) parts i d lt
    ∙ there (λ us. in_parts inside (get_or parts i d ∷ drop (i + 1) parts) us) vs i v some

pub fits_not : (inside : TypeId → Value → Bool) (parts : List Part) (vs : List Value) (i : ℕ) (d : Part) (v : Value) (total : Bool)
    → i < length parts → Some v ≡ slice_get vs i → false ≡ inside (get_or parts i d).sort v → FitsOn inside parts vs i total → false ≡ total
fits_not inside parts vs i d v total lt some bad so_far =
    ap (λ b. b && in_parts inside (drop (i + 1) parts) (drop (i + 1) vs)) bad ∙ sym (both inside parts vs i d v lt some) ∙ so_far.is

pub fits_more : (inside : TypeId → Value → Bool) (parts : List Part) (vs : List Value) (i : ℕ) (d : Part) (v : Value) (total : Bool)
    → i < length parts → Some v ≡ slice_get vs i → true ≡ inside (get_or parts i d).sort v → FitsOn inside parts vs i total
    → FitsOn inside parts vs (i + 1) total
fits_more inside parts vs i d v total lt some good so_far =
    let inside_it : i < length vs = slice_get_within vs i v (sym some) in
    record {
      is = ap (λ b. b && in_parts inside (drop (i + 1) parts) (drop (i + 1) vs)) good ∙ sym (both inside parts vs i d v lt some) ∙ so_far.is;
      there = omega (arith, inside_it);
    }

none_left : (inside : TypeId → Value → Bool) (vs : List Value) (i n : ℕ) → i ≤ length vs → n ≡ i → nat_eq n (length vs) ≡ in_parts inside [] (drop i vs)
none_left inside [] zero n le e = ap (λ m. nat_eq m 0) e
none_left inside [] (suc i) n le e = absurd (omega (arith, le))
none_left inside (v ∷ vs) zero n le e = ap (λ m. nat_eq m (length (v ∷ vs))) e ∙ eqb-zero-suc (length vs)
none_left inside (v ∷ vs) (suc i) n le e = ap (λ m. nat_eq m (length (v ∷ vs))) e ∙ eqb-suc-suc i (length vs) ∙ none_left inside vs i i (omega (arith, le)) refl

pub fits_end : (inside : TypeId → Value → Bool) (parts : List Part) (vs : List Value) (i : ℕ) (total : Bool)
    → length parts ≤ i → i ≤ length parts → FitsOn inside parts vs i total → nat_eq (length parts) (length vs) ≡ total
fits_end inside parts vs i total le within so_far =
    none_left inside vs i (length parts) so_far.there (omega (arith, le, within))
    ∙ sym (at_drop_all (λ ps. in_parts inside ps (drop i vs)) parts i le) ∙ so_far.is

pub ruleset fitting = (in_is, fits_first, fits_none, fits_not, fits_more, fits_end)
