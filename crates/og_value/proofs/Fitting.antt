-- What a text reads as is a value of the type.
use Rattle.std.proofs.Common.{◌≡◌, ℕ, suc, ◌<◌, Bool, true, false, cond, ◌&&◌, ◌==◌, nat_le, ℤ, List, [], ◌∷◌, length, slice_get, Option, Some, None, option_map, inl, inr, refl, sym, ap, ◌∙◌, arith}
use Rattle.std.specs.List.{list_all}
use Rattle.std.proofs.lemmas.Bool.{lt-ltb, cases_Bool}
use Rattle.std.proofs.lemmas.Option.{none-some, cond_some}
use Rattle.og_names.specs.declared.NameId.{NameId}
use Rattle.og_names.specs.Folding.{folded, place_of}
use Rattle.og_names.proofs.Truths.{both_true, both_first, both_second, same_value}
use Rattle.og_types.specs.declared.TypeId.{TypeId}
use Rattle.og_types.specs.declared.Part.{Part}
use Rattle.og_types.specs.declared.Sort.{Sort}
use Rattle.og_types.specs.declared.Sort.TheVariants as Sorts
use Rattle.og_types.specs.declared.Value.{Value, out-Value}
use Rattle.og_types.specs.declared.Value as Values
use Rattle.og_types.specs.declared.Value.TheViews.{outs-Int, outs-Bool, outs-Enumerated, outs-Sequence, outs-Choice, outs-SeqOf}
use Rattle.og_types.specs.Values.{in_parts, in_part, in_sort, is_in, IsDownward}
use Rattle.og_types.proofs.Downward.{is_in_is}
use Rattle.og_value.specs.Forms.{Form, Number, Truth, Name, Alternative, Items, Parts, Forms, no_item, item, Fields, no_part, part}
use Rattle.og_value.specs.Reads.{◌>>=◌, Names, Chosen, integer, as_number, as_truth, as_name, place_among, place_of_word, names_of, chosen, chosen_at, alternative_of, item_of, as_items, components_of, is_called, value_of, values_of, fields_of}

-- ---- what a chain gives comes from what its parts give

record Bound {A B : Type 0} (o : Option A) (f : A → Option B) (y : B) : Type 0 where
  value : A
  is : o ≡ Some value
  gives : f value ≡ Some y

bound : {A B : Type 0} (o : Option A) (f : A → Option B) (y : B) → (o >>= f) ≡ Some y → Bound o f y
bound None f y h = absurd (none-some y h)
bound (Some x) f y h = record { value = x; is = refl; gives = h }

record Mapped {A B : Type 0} (o : Option A) (g : A → B) (y : B) : Type 0 where
  value : A
  is : o ≡ Some value
  gives : g value ≡ y

mapped : {A B : Type 0} (o : Option A) (g : A → B) (y : B) → option_map g o ≡ Some y → Mapped o g y
mapped None g y h = absurd (none-some y h)
mapped (Some x) g y h = record { value = x; is = refl; gives = same_value (g x) y h }

place_within : (ids : List NameId) (n k : ℕ) → place_among ids n ≡ Some k → k < length ids
place_within [] n k e = absurd (none-some k e)
place_within (id ∷ ids) n k e = elim (cases_Bool (id.0 == n)) [
  | inl same ↦
      let first = same_value 0 k (sym (ap (λ b. cond b (Some 0) (option_map suc (place_among ids n))) same) ∙ e) in
      omega (arith, first)
  | inr other ↦
      let more = mapped (place_among ids n) suc k (sym (ap (λ b. cond b (Some 0) (option_map suc (place_among ids n))) other) ∙ e) in
      let before = place_within ids n more.value more.is in
      omega (arith, before, more.gives)
]

all_same : (f g : Value → Bool) → ((v : Value) → f v ≡ g v) → (vs : List Value) → list_all f vs ≡ true → list_all g vs ≡ true
all_same f g h [] all = refl
all_same f g h (v ∷ vs) all = both_true _ _ (sym (h v) ∙ both_first _ _ all) (all_same f g h vs (both_second (f v) _ all))

module _ (types : List Sort) (downward : IsDownward types) (names : Names) where
  fits : Option Sort → Value → Bool
  fits sort v = in_sort (is_in types) sort (out-Value v)

  number_fits : (sort : Option Sort) (z : ℤ) (v : Value) → as_number sort z ≡ Some v → fits sort v ≡ true
  unfolding fits
  number_fits None z v e = absurd (none-some v e)
  number_fits (Some (Sorts.Int lo hi)) z v e =
      let test = cond_some _ _ _ e in
      ap (fits (Some (Sorts.Int lo hi))) (sym test.1) ∙ ap (in_sort (is_in types) (Some (Sorts.Int lo hi))) (outs-Int z) ∙ test.0
  number_fits (Some s) z v e = absurd (none-some v e)

  truth_fits : (sort : Option Sort) (b : Bool) (v : Value) → as_truth sort b ≡ Some v → fits sort v ≡ true
  unfolding fits
  truth_fits None b v e = absurd (none-some v e)
  truth_fits (Some Sorts.Bool) b v e =
      ap (fits (Some Sorts.Bool)) (sym (same_value (Values.Bool b) v e)) ∙ ap (in_sort (is_in types) (Some Sorts.Bool)) (outs-Bool b)
  truth_fits (Some s) b v e = absurd (none-some v e)

  name_fits : (sort : Option Sort) (w : List ℕ) (v : Value) → as_name names sort w ≡ Some v → fits sort v ≡ true
  unfolding fits
  name_fits None w v e = absurd (none-some v e)
  name_fits (Some (Sorts.Enumerated ids numbers)) w v e =
      let k = mapped (place_of_word names ids w) Values.Enumerated v e in
      let n = bound (place_of names (folded w)) (place_among ids) k.value k.is in
      ap (fits (Some (Sorts.Enumerated ids numbers))) (sym k.gives)
      ∙ ap (in_sort (is_in types) (Some (Sorts.Enumerated ids numbers))) (outs-Enumerated k.value)
      ∙ lt-ltb k.value (length ids) (place_within ids n.value k.value n.gives)
  name_fits (Some s) w v e = absurd (none-some v e)

  -- what reads the value of an alternative
  of_choice : Form → Chosen → Option Value
  of_choice f a = option_map (Values.Choice a.place) (value_of types names (slice_get types a.sort.0) f)

  chosen_fits : (parts : List Part) (k : ℕ) (p : Part) (u : Value) → slice_get parts k ≡ Some p → fits (slice_get types p.sort.0) u ≡ true
      → fits (Some (Sorts.Choice parts)) (Values.Choice k u) ≡ true
  unfolding fits
  chosen_fits parts k p u at h =
      ap (in_sort (is_in types) (Some (Sorts.Choice parts))) (outs-Choice k u) ∙ ap (λ o. in_part (is_in types) o u) at
      ∙ is_in_is types downward p.sort u ∙ h

  chosen_value : (parts : List Part) (k : ℕ) (p : Part) (f : Form) (v : Value) → slice_get parts k ≡ Some p
      → ((o : Option Sort) (u : Value) → value_of types names o f ≡ Some u → fits o u ≡ true)
      → of_choice f (chosen k p.sort) ≡ Some v → fits (Some (Sorts.Choice parts)) v ≡ true
  unfolding of_choice
  chosen_value parts k p f v at inner e =
      let u = mapped (value_of types names (slice_get types p.sort.0) f) (Values.Choice k) v e in
      ap (fits (Some (Sorts.Choice parts))) (sym u.gives) ∙ chosen_fits parts k p u.value at (inner (slice_get types p.sort.0) u.value u.is)

  alternative_fits : (sort : Option Sort) (w : List ℕ) (f : Form) (v : Value)
      → ((o : Option Sort) (u : Value) → value_of types names o f ≡ Some u → fits o u ≡ true)
      → (alternative_of names sort w >>= of_choice f) ≡ Some v → fits sort v ≡ true
  unfolding fits of_choice
  alternative_fits None w f v inner e = absurd (none-some v e)
  alternative_fits (Some (Sorts.Choice parts)) w f v inner e =
      let a = bound (place_of_word names (names_of parts) w >>= chosen_at parts) (of_choice f) v e in
      let k = bound (place_of_word names (names_of parts) w) (chosen_at parts) a.value a.is in
      let p = mapped (slice_get parts k.value) (λ (q : Part). chosen k.value q.sort) a.value k.gives in
      chosen_value parts k.value p.value f v p.is inner (ap (of_choice f) p.gives ∙ a.gives)
  alternative_fits (Some s) w f v inner e = absurd (none-some v e)

  sized_fit : (lo hi : ℕ) (id : TypeId) (vs : List Value) → (nat_le lo (length vs) && nat_le (length vs) hi) ≡ true → list_all (is_in types id) vs ≡ true
      → fits (Some (Sorts.SeqOf lo hi id)) (Values.SeqOf vs) ≡ true
  unfolding fits
  sized_fit lo hi id vs size all =
      let most = both_true (nat_le (length vs) hi) _ (both_second (nat_le lo (length vs)) _ size) all in
      ap (in_sort (is_in types) (Some (Sorts.SeqOf lo hi id))) (outs-SeqOf vs) ∙ both_true (nat_le lo (length vs)) _ (both_first (nat_le lo (length vs)) _ size) most

  items_fit : (sort : Option Sort) (vs : List Value) (v : Value) → list_all (fits (item_of types sort)) vs ≡ true → as_items sort vs ≡ Some v → fits sort v ≡ true
  unfolding fits
  items_fit None vs v all e = absurd (none-some v e)
  items_fit (Some (Sorts.SeqOf lo hi id)) vs v all e =
      let test = cond_some _ _ _ e in
      ap (fits (Some (Sorts.SeqOf lo hi id))) (sym test.1)
      ∙ sized_fit lo hi id vs test.0 (all_same (fits (slice_get types id.0)) (is_in types id) (λ u. sym (is_in_is types downward id u)) vs all)
  items_fit (Some (Sorts.Sequence [])) [] v all e =
      ap (fits (Some (Sorts.Sequence []))) (sym (same_value _ v e)) ∙ ap (in_sort (is_in types) (Some (Sorts.Sequence []))) (outs-Sequence [])
  items_fit (Some s) vs v all e = absurd (none-some v e)

  parts_fit : (sort : Option Sort) (fs : Fields) (v : Value)
      → ((parts : List Part) (vs : List Value) → fields_of types names parts fs ≡ Some vs → in_parts (is_in types) parts vs ≡ true)
      → (components_of sort >>= λ parts. option_map Values.Sequence (fields_of types names parts fs)) ≡ Some v → fits sort v ≡ true
  unfolding fits
  parts_fit None fs v inner e = absurd (none-some v e)
  parts_fit (Some (Sorts.Sequence parts)) fs v inner e =
      let vs = mapped (fields_of types names parts fs) Values.Sequence v e in
      ap (fits (Some (Sorts.Sequence parts))) (sym vs.gives)
      ∙ ap (in_sort (is_in types) (Some (Sorts.Sequence parts))) (outs-Sequence vs.value) ∙ inner parts vs.value vs.is
  parts_fit (Some s) fs v inner e = absurd (none-some v e)

  called_value : (b : Bool) (o : Option Value) (v : Value) → cond b o None ≡ Some v → o ≡ Some v
  called_value true o v e = e
  called_value false o v e = absurd (none-some v e)

  mutual
    unfolding fits of_choice

    value_fits : (f : Form) (sort : Option Sort) (v : Value) → value_of types names sort f ≡ Some v → fits sort v ≡ true
    value_fits (Number negative ds) sort v e = number_fits sort (integer negative ds) v e
    value_fits (Truth b) sort v e = truth_fits sort b v e
    value_fits (Name w) sort v e = name_fits sort w v e
    value_fits (Alternative w f) sort v e = alternative_fits sort w f v (value_fits f) e
    value_fits (Items fs) sort v e =
        let vs = bound (values_of types names (item_of types sort) fs) (as_items sort) v e in
        items_fit sort vs.value v (values_fit fs (item_of types sort) vs.value vs.is) vs.gives
    value_fits (Parts fs) sort v e = parts_fit sort fs v (fields_fit fs) e

    values_fit : (fs : Forms) (sort : Option Sort) (vs : List Value) → values_of types names sort fs ≡ Some vs → list_all (fits sort) vs ≡ true
    values_fit no_item sort vs e = ap (list_all (fits sort)) (sym (same_value [] vs e))
    values_fit (item f fs) sort vs e =
        let v = bound (value_of types names sort f) (λ v. option_map (λ us. v ∷ us) (values_of types names sort fs)) vs e in
        let others = mapped (values_of types names sort fs) (λ us. v.value ∷ us) vs v.gives in
        ap (list_all (fits sort)) (sym others.gives) ∙ both_true _ _ (value_fits f sort v.value v.is) (values_fit fs sort others.value others.is)

    fields_fit : (fs : Fields) (parts : List Part) (vs : List Value) → fields_of types names parts fs ≡ Some vs → in_parts (is_in types) parts vs ≡ true
    fields_fit no_part [] vs e = ap (in_parts (is_in types) []) (sym (same_value [] vs e))
    fields_fit no_part (p ∷ parts) vs e = absurd (none-some vs e)
    fields_fit (part w f fs) [] vs e = absurd (none-some vs e)
    fields_fit (part w f fs) (p ∷ parts) vs e =
        let v = bound (cond (is_called names w p.name) (value_of types names (slice_get types p.sort.0) f) None) (λ v. option_map (λ us. v ∷ us) (fields_of types names parts fs)) vs e in
        let others = mapped (fields_of types names parts fs) (λ us. v.value ∷ us) vs v.gives in
        let named = called_value (is_called names w p.name) (value_of types names (slice_get types p.sort.0) f) v.value v.is in
        ap (in_parts (is_in types) (p ∷ parts)) (sym others.gives)
        ∙ both_true _ _ (is_in_is types downward p.sort v.value ∙ value_fits f (slice_get types p.sort.0) v.value named) (fields_fit fs parts others.value others.is)

  pub read_fits : (id : TypeId) (f : Form) (v : Value) → value_of types names (slice_get types id.0) f ≡ Some v → is_in types id v ≡ true
  unfolding fits
  read_fits id f v e = is_in_is types downward id v ∙ value_fits f (slice_get types id.0) v e
