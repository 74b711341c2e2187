-- A value that is read from cells is in its type.
use Rattle.std.proofs.Common.{◌≡◌, ℕ, zero, suc, ◌+◌, List, [], ◌∷◌, Bool, true, ◌&&◌, Option, Some, None, length, slice_get, refl, sym, ap, ◌∙◌, arith}
use Rattle.std.proofs.lemmas.Option.{none-some, cond_some}
use Rattle.std.specs.Prelude.{nat_lt, nat_le, unwrap_or}
use Rattle.std.specs.List.{list_all}
use Rattle.og_types.specs.declared.Part.{Part}
use Rattle.og_types.specs.declared.Sort.{Sort}
use Rattle.og_types.specs.declared.Sort.TheVariants as sort
use Rattle.og_types.specs.declared.TypeId.{TypeId}
use Rattle.og_types.specs.declared.Value.{Value, out-Value}
use Rattle.og_types.specs.declared.Value.TheViews.{outs-Int, outs-Bool, outs-Enumerated, outs-Sequence, outs-Choice, outs-SeqOf}
use Rattle.og_types.specs.Values.{in_parts, in_part, in_sort, in_within, is_in}
use Rattle.og_ir.specs.Cells.{◌>>=◌, Cells, Cell, Empty, Both, number_in, part}
use Rattle.og_ir.specs.Reading.{only_if, natural, below, truth_in, read_parts, read_items, read_array, read_seq_of, read_sequence, read_choice, read_sort, read_within, value_in}
use Rattle.og_names.proofs.Truths.{both_first as left_of, both_second as right_of, both_true, same_value}

-- a value that a chain gives comes from values of its parts
pub record Bound {A B : Type 0} (o : Option A) (f : A → Option B) (y : B) : Type 0 where
  pub value : A
  pub is : o ≡ Some value
  pub gives : f value ≡ Some y

pub bound : {A B : Type 0} (o : Option A) (f : A → Option B) (y : B) → (o >>= f) ≡ Some y → Bound o f y
bound None f y h = absurd (none-some y h)
bound (Some x) f y h = record { value = x; is = refl; gives = h }

-- the value that there is
module _ (read : TypeId → Cells → Option Value) (inside : TypeId → Value → Bool) (right : (t : TypeId) (cells : Cells) (v : Value) → read t cells ≡ Some v → inside t v ≡ true) where
  parts_in : (parts : List Part) (cells : Cells) (vs : List Value) → read_parts read parts cells ≡ Some vs → in_parts inside parts vs ≡ true
  parts_in [] cells vs h = ap (in_parts inside []) (sym (same_value [] vs h))
  parts_in (p ∷ parts) (Cell z) vs h = absurd (none-some vs h)
  parts_in (p ∷ parts) Empty vs h = absurd (none-some vs h)
  parts_in (p ∷ parts) (Both first others) vs h =
      let one = bound (read p.sort first) _ vs h in
      let more = bound (read_parts read parts others) _ vs one.gives in
      ap (in_parts inside (p ∷ parts)) (sym (same_value _ vs more.gives))
      ∙ both_true _ _ (right p.sort first one.value one.is) (parts_in parts others more.value more.is)

  sequence_in : (parts : List Part) (cells : Cells) (v : Value) → read_sequence read parts cells ≡ Some v → in_sort inside (Some (sort.Sequence parts)) (out-Value v) ≡ true
  sequence_in [] cells v h =
      let one = bound (number_in cells) _ v h in
      ap (λ w. in_sort inside (Some (sort.Sequence [])) (out-Value w)) (sym (same_value _ v one.gives))
      ∙ ap (in_sort inside (Some (sort.Sequence []))) (outs-Sequence [])
  sequence_in (p ∷ parts) cells v h =
      let one = bound (read_parts read (p ∷ parts) cells) _ v h in
      ap (λ w. in_sort inside (Some (sort.Sequence (p ∷ parts))) (out-Value w)) (sym (same_value _ v one.gives))
      ∙ ap (in_sort inside (Some (sort.Sequence (p ∷ parts)))) (outs-Sequence one.value)
      ∙ parts_in (p ∷ parts) cells one.value one.is

  choice_in : (parts : List Part) (cells : Cells) (v : Value) → read_choice read parts cells ≡ Some v → in_sort inside (Some (sort.Choice parts)) (out-Value v) ≡ true
  choice_in parts (Cell z) v h = absurd (none-some v h)
  choice_in parts Empty v h = absurd (none-some v h)
  choice_in parts (Both first others) v h =
      let z = bound (number_in first) _ v h in
      let k = bound (natural z.value) _ v z.gives in
      let p = bound (slice_get parts k.value) _ v k.gives in
      let c = bound (part k.value others) _ v p.gives in
      let w = bound (read p.value.sort c.value) _ v c.gives in
      ap (λ u. in_sort inside (Some (sort.Choice parts)) (out-Value u)) (sym (same_value _ v w.gives))
      ∙ ap (in_sort inside (Some (sort.Choice parts))) (outs-Choice k.value w.value)
      ∙ ap (λ o. in_part inside o w.value) p.is
      ∙ right p.value.sort c.value w.value w.is

  -- so many items, each in the type
  items_in : (item : TypeId) (n : ℕ) (cells : Cells) (vs : List Value) → read_items (read item) n cells ≡ Some vs → (length vs ≡ n) × (list_all (inside item) vs ≡ true)
  items_in item zero cells vs h =
      (ap length (sym (same_value [] vs h)), ap (list_all (inside item)) (sym (same_value [] vs h)))
  items_in item (suc n) (Cell z) vs h = absurd (none-some vs h)
  items_in item (suc n) Empty vs h = absurd (none-some vs h)
  items_in item (suc n) (Both first others) vs h =
      let one = bound (read item first) _ vs h in
      let more = bound (read_items (read item) n others) _ vs one.gives in
      let rest = items_in item n others more.value more.is in (
        ap length (sym (same_value _ vs more.gives)) ∙ ap suc rest.0,
        ap (list_all (inside item)) (sym (same_value _ vs more.gives)) ∙ both_true _ _ (right item first one.value one.is) rest.1,
      )

  array_in : (item : TypeId) (n : ℕ) (cells : Cells) (vs : List Value) → read_array (read item) n cells ≡ Some vs → (length vs ≡ n) × (list_all (inside item) vs ≡ true)
  array_in item zero cells vs h =
      (ap length (sym (same_value [] vs h)), ap (list_all (inside item)) (sym (same_value [] vs h)))
  array_in item (suc n) (Cell z) vs h = absurd (none-some vs h)
  array_in item (suc n) Empty vs h = absurd (none-some vs h)
  array_in item (suc n) (Both array others) vs h = items_in item (suc n) array vs h

  seq_of_in : (lo hi : ℕ) (item : TypeId) (cells : Cells) (v : Value) → read_seq_of (read item) lo hi cells ≡ Some v → in_sort inside (Some (sort.SeqOf lo hi item)) (out-Value v) ≡ true
  seq_of_in lo hi item (Cell z) v h = absurd (none-some v h)
  seq_of_in lo hi item Empty v h = absurd (none-some v h)
  seq_of_in lo hi item (Both first others) v h =
      let z = bound (number_in first) _ v h in
      let n = bound (natural z.value) _ v z.gives in
      let len = bound (only_if (nat_le lo n.value && nat_le n.value hi) n.value) _ v n.gives in
      let vs = bound (read_array (read item) len.value others) _ v len.gives in
      let sized = cond_some _ _ _ len.is in
      let items = array_in item len.value others vs.value vs.is in
      let within = ap (λ k. nat_le lo k && nat_le k hi) (items.0 ∙ sym sized.1) ∙ sized.0 in
      ap (λ u. in_sort inside (Some (sort.SeqOf lo hi item)) (out-Value u)) (sym (same_value _ v vs.gives))
      ∙ ap (in_sort inside (Some (sort.SeqOf lo hi item))) (outs-SeqOf vs.value)
      ∙ both_true _ _ (left_of _ _ within) (both_true _ _ (right_of _ _ within) items.1)

  sort_in : (s : Sort) (cells : Cells) (v : Value) → read_sort read s cells ≡ Some v → in_sort inside (Some s) (out-Value v) ≡ true
  sort_in (sort.Int lo hi) cells v h =
      let z = bound (number_in cells) _ v h in
      let test = cond_some _ _ _ z.gives in
      ap (λ u. in_sort inside (Some (sort.Int lo hi)) (out-Value u)) (sym test.1)
      ∙ ap (in_sort inside (Some (sort.Int lo hi))) (outs-Int z.value) ∙ test.0
  sort_in sort.Bool cells v h =
      let b = bound (number_in cells >>= truth_in) _ v h in
      ap (λ u. in_sort inside (Some sort.Bool) (out-Value u)) (sym (same_value _ v b.gives))
      ∙ ap (in_sort inside (Some sort.Bool)) (outs-Bool b.value)
  sort_in (sort.Enumerated names numbers) cells v h =
      let k = bound (number_in cells >>= below (length names)) _ v h in
      let z = bound (number_in cells) _ _ k.is in
      let n = bound (natural z.value) _ _ z.gives in
      let test = cond_some _ _ _ n.gives in
      ap (λ u. in_sort inside (Some (sort.Enumerated names numbers)) (out-Value u)) (sym (same_value _ v k.gives))
      ∙ ap (in_sort inside (Some (sort.Enumerated names numbers))) (outs-Enumerated k.value)
      ∙ ap (λ j. nat_lt j (length names)) (sym test.1) ∙ test.0
  sort_in (sort.Sequence parts) cells v h = sequence_in parts cells v h
  sort_in (sort.Choice parts) cells v h = choice_in parts cells v h
  sort_in (sort.SeqOf lo hi item) cells v h = seq_of_in lo hi item cells v h
  sort_in sort.Opaque cells v h = absurd (none-some v h)

-- what is read is in its type, going down at most so many times
within_in : (depth : ℕ) (sorts : List Sort) (t : TypeId) (cells : Cells) (v : Value) → read_within depth sorts t cells ≡ Some v → in_within depth sorts t v ≡ true
within_in zero sorts t cells v h = absurd (none-some v h)
within_in (suc depth) sorts t cells v h =
    let s = bound (slice_get sorts t.0) _ v h in
    ap (λ o. in_sort (in_within depth sorts) o (out-Value v)) s.is
    ∙ sort_in (read_within depth sorts) (in_within depth sorts) (within_in depth sorts) s.value cells v s.gives

-- a value that cells hold is in its type
pub held_is_in : (sorts : List Sort) (t : TypeId) (cells : Cells) (v : Value) → value_in sorts t cells ≡ Some v → is_in sorts t v ≡ true
unfolding value_in
held_is_in sorts t cells v h =
    let same : suc t.0 ≡ t.0 + 1 = omega arith in
    ap (λ d. in_within d sorts t v) same ∙ within_in (t.0 + 1) sorts t cells v h
