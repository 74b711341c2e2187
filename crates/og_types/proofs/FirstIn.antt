-- The first value of a type is in the type.
use Rattle.std.proofs.Common.{◌≡◌, ℕ, zero, suc, ◌+◌, ◌<◌, ◌≤◌, Bool, true, false, List, [], ◌∷◌, length, map, replicate, slice_get, Option, Some, None, refl, sym, ap, ◌∙◌, arith, ℤ, pos, negsuc}
use Rattle.std.proofs.lemmas.Bool.{false≢true, leb-true, le-leb, ltb-true, lt-ltb}
use Rattle.std.specs.Prelude.{nat_le, int_le}
use Rattle.std.specs.List.{list_all}
use Rattle.std.proofs.lemmas.List.{length-replicate}
use Rattle.og_types.specs.declared.TypeId.{TypeId}
use Rattle.og_types.specs.declared.Part.{Part}
use Rattle.og_types.specs.declared.Sort.{Sort}
use Rattle.og_types.specs.declared.Sort.TheVariants as Sorts
use Rattle.og_types.specs.declared.Value.{Value, out-Value}
use Rattle.og_types.specs.declared.Value.TheVariants.{outs-Int, outs-Bool, outs-Enumerated, outs-Sequence, outs-Choice, outs-SeqOf}
use Rattle.og_types.specs.Values.{in_parts, in_sort, is_in, first, first_within, first_of_sort, is_supported_sort, is_supported, IsDownward, PartsBelow}
use Rattle.og_types.specs.Table.{is_table, is_sort_after}
use Rattle.og_types.proofs.Downward.{is_in_is, first_is, is_supported_is}
use Rattle.og_types.proofs.Tables.{sort_after, parts_below, tables_are_downward}
use Rattle.og_names.proofs.Truths.{both_true, both_first, both_second}

int_le_refl : (z : ℤ) → int_le z z ≡ true
int_le_refl (pos n) = le-leb n n (omega arith)
int_le_refl (negsuc n) = le-leb n n (omega arith)

at_least : (n : ℕ) (v : Value) → n ≤ length (replicate n v)
at_least n v = omega (arith, length-replicate n v)

at_most : (n m : ℕ) (v : Value) → n ≤ m → length (replicate n v) ≤ m
at_most n m v h = omega (arith, length-replicate n v)

module _ (n : ℕ) (inside : TypeId → Value → Bool) (f : TypeId → Value) (s : TypeId → Bool)
    (inner : (id : TypeId) → id.0 < n → s id ≡ true → inside id (f id) ≡ true) where
  parts_in : (ps : List Part) → PartsBelow n ps → list_all (λ (p : Part). s p.sort) ps ≡ true → in_parts inside ps (map (λ (p : Part). f p.sort) ps) ≡ true
  parts_in [] b h = refl
  parts_in (p ∷ ps) b h = both_true _ _ (inner p.sort b.0 (both_first _ _ h)) (parts_in ps b.1 (both_second _ _ h))

  items_in : (id : TypeId) → inside id (f id) ≡ true → (k : ℕ) → list_all (inside id) (replicate k (f id)) ≡ true
  items_in id h zero = refl
  items_in id h (suc k) = both_true _ _ h (items_in id h k)

  sort_in : (t : Sort) → is_sort_after n t ≡ true → is_supported_sort s (Some t) ≡ true → in_sort inside (Some t) (out-Value (first_of_sort f (Some t))) ≡ true
  sort_in (Sorts.Int lo hi) a h = ap (in_sort inside (Some (Sorts.Int lo hi))) (outs-Int lo) ∙ both_true _ _ (int_le_refl lo) (both_second _ _ (both_second _ _ a))
  sort_in Sorts.Bool a h = ap (in_sort inside (Some Sorts.Bool)) (outs-Bool false)
  sort_in (Sorts.Enumerated [] numbers) a h = absurd (false≢true a)
  sort_in (Sorts.Enumerated (name ∷ names) numbers) a h = ap (in_sort inside (Some (Sorts.Enumerated (name ∷ names) numbers))) (outs-Enumerated 0) ∙ lt-ltb _ _ (omega arith)
  sort_in (Sorts.Sequence ps) a h =
      ap (in_sort inside (Some (Sorts.Sequence ps))) (outs-Sequence (map (λ (p : Part). f p.sort) ps)) ∙ parts_in ps (parts_below n ps (both_first _ _ a)) h
  sort_in (Sorts.Choice []) a h = absurd (false≢true a)
  sort_in (Sorts.Choice (p ∷ ps)) a h =
      ap (in_sort inside (Some (Sorts.Choice (p ∷ ps)))) (outs-Choice 0 (f p.sort))
      ∙ inner p.sort (parts_below n (p ∷ ps) (both_first _ _ a)).0 (both_first _ _ h)
  sort_in (Sorts.SeqOf lo hi item) a h =
      let most = leb-true lo hi (both_first _ _ a) in
      let below = ltb-true item.0 n (both_second _ _ (both_second (nat_le lo hi) _ a)) in
      ap (in_sort inside (Some (Sorts.SeqOf lo hi item))) (outs-SeqOf (replicate lo (f item)))
      ∙ both_true _ _ (le-leb lo (length (replicate lo (f item))) (at_least lo (f item)))
      (both_true _ _ (le-leb (length (replicate lo (f item))) hi (at_most lo hi (f item) most)) (items_in item (inner item below h) lo))
  sort_in Sorts.Opaque a h = absurd (false≢true h)

module _ (types : List Sort) (table : is_table types ≡ true) where
  downward : IsDownward types
  downward = tables_are_downward types table

  known : (id : TypeId) (t : Sort) → slice_get types id.0 ≡ Some t
      → ((x : TypeId) → x.0 < id.0 → is_supported types x ≡ true → is_in types x (first types x) ≡ true)
      → is_supported types id ≡ true → is_in types id (first types id) ≡ true
  known id t e inner h =
      is_in_is types downward id (first types id)
      ∙ ap (λ (v : Value). in_sort (is_in types) (slice_get types id.0) (out-Value v)) (first_is types downward id)
      ∙ ap (λ (o : Option Sort). in_sort (is_in types) o (out-Value (first_of_sort (first types) o))) e
      ∙ sort_in id.0 (is_in types) (first types) (is_supported types) inner t (sort_after types table id.0 t e)
      (ap (is_supported_sort (is_supported types)) (sym e) ∙ sym (is_supported_is types downward id) ∙ h)

  by_sort : (id : TypeId) (o : Option Sort) → slice_get types id.0 ≡ o
      → ((x : TypeId) → x.0 < id.0 → is_supported types x ≡ true → is_in types x (first types x) ≡ true)
      → is_supported types id ≡ true → is_in types id (first types id) ≡ true
  by_sort id None e inner h = absurd (false≢true (ap (is_supported_sort (is_supported types)) (sym e) ∙ sym (is_supported_is types downward id) ∙ h))
  by_sort id (Some t) e inner h = known id t e inner h

  by_number : (d : ℕ) (id : TypeId) → id.0 < d → is_supported types id ≡ true → is_in types id (first types id) ≡ true
  by_number zero id b h = absurd (omega (arith, b))
  by_number (suc d) id b h = by_sort id (slice_get types id.0) refl (λ x r k. by_number d x (omega (arith, r, b)) k) h

  pub first_is_in : (id : TypeId) → is_supported types id ≡ true → is_in types id (first types id) ≡ true
  first_is_in id h = by_number (suc id.0) id (omega arith) h

-- the first value of a table that was read
pub first_read : (types now read : List Sort) (id : TypeId) (v : Value) → is_table types ≡ true → types ≡ now → read ≡ types → is_supported now id ≡ true
    → v ≡ first_within (id.0 + 1) read id → is_in now id v ≡ true
first_read types now read id v table t r h e =
    let same : suc id.0 ≡ id.0 + 1 = omega arith in
    let is : v ≡ first now id = e ∙ ap (λ (xs : List Sort). first_within (id.0 + 1) xs id) (r ∙ t) ∙ ap (λ (d : ℕ). first_within d now id) (sym same) in
    ap (is_in now id) is ∙ first_is_in now (ap is_table (sym t) ∙ table) id h
