-- Lists that keep what a function says of each place.
use Rattle.std.proofs.Common.{◌≡◌, ℕ, zero, suc, ◌≤◌, ◌<◌, List, length, slice_get, Option, Some, None, unwrap_or, ℤ, refl, sym, ap, ◌∙◌, arith, ◌⊎◌, inl, inr, map}
use Rattle.std.specs.List.{range_with_len}
use Rattle.std.proofs.lemmas.List.FromFn.{length-map-range_with_len, get_or-map-range_with_len}
use Rattle.std.proofs.lemmas.Option.{slice_get-get_or}
use Rattle.og_flat.specs.declared.flat.Flat.{Flat}
use Rattle.og_dataview.specs.Following.{walk, next_constant, own_number, number_of}
use Rattle.og_dataview.proofs.Tables.{Tabulated, tabulated_none, tabulated_more, none_behind, steps_are}
use Rattle.og_datatypes.specs.Kept.{AreValues}

pub below_or_not : (p n : ℕ) → (p < n) ⊎ (n ≤ p)
below_or_not p zero = inr (omega arith)
below_or_not zero (suc n) = inl (omega arith)
below_or_not (suc p) (suc n) = elim (below_or_not p n) [ inl lt ↦ inl (omega (arith, lt)) | inr le ↦ inr (omega (arith, le)) ]

-- what a list keeps, and what stands for a place that it does not have
pub kept_are : {X : Type 0} (f : ℕ → X) (xs : List X) (d : X) (n : ℕ) → Tabulated f xs n → ((p : ℕ) → n ≤ p → f p ≡ d) → (p : ℕ) → unwrap_or (slice_get xs p) d ≡ f p
kept_are f xs d n tabulated out p = by (below_or_not p n)
  where
    by : (p < n) ⊎ (n ≤ p) → unwrap_or (slice_get xs p) d ≡ f p
    by (inl lt) = ap (λ o. unwrap_or o d) (tabulated.each p lt)
    by (inr le) = ap (λ o. unwrap_or o d) (none_behind xs p (omega (arith, le, tabulated.long))) ∙ sym (out p le)

pub ruleset lists = (tabulated_none, tabulated_more, kept_are, steps_are, none_behind)

pub tabulated_map : {X : Type 0} (f : ℕ → X) (xs : List X) (n : ℕ) → xs ≡ map f (range_with_len 0 n) → Tabulated f xs n
tabulated_map f xs n e = record {
  long = ap length e ∙ length-map-range_with_len f 0 n;
  each = λ p lt. ap (λ ys. slice_get ys p) e ∙ slice_get-get_or (map f (range_with_len 0 n)) p (f p) (omega (arith, lt, length-map-range_with_len f 0 n))
      ∙ ap Some (get_or-map-range_with_len f 0 n p p (f p) lt (omega arith));
}

-- ---- constants

stays : (flat : Flat) (i n : ℕ) → length flat.constants ≤ i → walk (next_constant flat) n i ≡ i
stays flat i zero le = refl
stays flat i (suc n) le =
    let here : next_constant flat i ≡ i = rw (none_behind flat.constants i le) refl in
    ap (walk (next_constant flat) n) here ∙ stays flat i n le

no_constant : (flat : Flat) (i : ℕ) → length flat.constants ≤ i → number_of flat i ≡ None
no_constant flat i le =
    ap (λ j. own_number flat (slice_get flat.constants j)) (stays flat i (suc (length flat.constants)) le) ∙ ap (own_number flat) (none_behind flat.constants i le)

pub values_kept : (flat : Flat) (values : List (Option ℤ)) → values ≡ map (number_of flat) (range_with_len 0 (length flat.constants)) → AreValues flat values
values_kept flat values e = record {
  each = kept_are (number_of flat) values None (length flat.constants) (tabulated_map (number_of flat) values (length flat.constants) e) (λ p le. no_constant flat p le);
}
