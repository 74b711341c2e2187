-- The cells of a value hold that value.
use Rattle.std.proofs.Common.{◌≡◌, ℕ, zero, suc, ◌+◌, ◌≤◌, pos, List, [], ◌∷◌, Bool, true, false, ◌&&◌, Option, Some, None, length, slice_get, refl, sym, ap, ◌∙◌, arith}
use Rattle.std.proofs.lemmas.Bool.{false≢true, leb-true}
use Rattle.std.proofs.lemmas.Option.{none-some}
use Rattle.std.specs.Prelude.{nat_le, option_map}
use Rattle.std.specs.List.{list_all}
use Rattle.og_types.specs.declared.Part.{Part}
use Rattle.og_types.specs.declared.Sort.{Sort}
use Rattle.og_types.specs.declared.Sort.TheVariants as sort
use Rattle.og_types.specs.declared.TypeId.{TypeId}
use Rattle.og_types.specs.declared.Value.{Value, out-Value, roll-Value, roll-out-Value}
use Rattle.og_types.specs.declared.Value.TheVariants as made
use Rattle.og_types.specs.declared.Value.TheOpen as value
use Rattle.og_types.specs.declared.Value.TheOpen.{Value-F}
use Rattle.og_types.specs.declared.Value.TheViews.{rolls-Int, rolls-Bool, rolls-Enumerated, rolls-Sequence, rolls-Choice, rolls-SeqOf}
use Rattle.og_types.specs.Values.{in_parts, in_part, in_sort, in_within, is_in}
use Rattle.og_ir.specs.Cells.{◌>>=◌, Cells, Cell, Empty, Both, part, cells_by}
use Rattle.og_ir.specs.Reading.{only_if, read_parts, read_items, read_array, read_seq_of, read_sequence, read_choice, read_sort, read_within, value_in, blank_within, write_parts, write_alternatives, write_items, write_sequence, write_seq_of, write_sort, write_within, cells_of}
use Rattle.og_names.proofs.Truths.{both_first as left_of, both_second as right_of}

-- both of two tests that hold together
module _ (read : TypeId → Cells → Option Value) (blank : TypeId → Cells) (write : TypeId → Value → Cells) (inside : TypeId → Value → Bool) (again : (t : TypeId) (v : Value) → inside t v ≡ true → read t (write t v) ≡ Some v) where
  parts_again : (parts : List Part) (vs : List Value) → in_parts inside parts vs ≡ true → read_parts read parts (write_parts blank write parts vs) ≡ Some vs
  parts_again [] [] h = refl
  parts_again [] (v ∷ vs) h = absurd (false≢true h)
  parts_again (p ∷ parts) [] h = absurd (false≢true h)
  parts_again (p ∷ parts) (v ∷ vs) h =
      ap (λ o. o >>= λ w. read_parts read parts (write_parts blank write parts vs) >>= λ ws. Some (w ∷ ws)) (again p.sort v (left_of (inside p.sort v) (in_parts inside parts vs) h))
      ∙ ap (λ o. o >>= λ ws. Some (v ∷ ws)) (parts_again parts vs (right_of (inside p.sort v) (in_parts inside parts vs) h))

  sequence_again : (parts : List Part) (vs : List Value) → in_parts inside parts vs ≡ true → read_sequence read parts (write_sequence blank write parts vs) ≡ Some (roll-Value (value.Sequence vs))
  sequence_again [] [] h = ap Some (sym (rolls-Sequence []))
  sequence_again [] (v ∷ vs) h = absurd (false≢true h)
  sequence_again (p ∷ parts) vs h =
      ap (λ o. o >>= λ ws. Some (made.Sequence ws)) (parts_again (p ∷ parts) vs h) ∙ ap Some (sym (rolls-Sequence vs))

  -- the alternative's cells stand at its place
  alternative_stands : (parts : List Part) (k : ℕ) (v : Value) (p : Part) → slice_get parts k ≡ Some p → part k (write_alternatives blank write parts k v) ≡ Some (write p.sort v)
  alternative_stands [] k v p h = absurd (none-some _ h)
  alternative_stands (q ∷ parts) zero v p h = ap (λ o. option_map (λ (r : Part). write r.sort v) o) h
  alternative_stands (q ∷ parts) (suc k) v p h = alternative_stands parts k v p h

  alternative_again : (parts : List Part) (k : ℕ) (v : Value) (o : Option Part) → slice_get parts k ≡ o → in_part inside o v ≡ true → read_choice read parts (Both (Cell (pos k)) (write_alternatives blank write parts k v)) ≡ Some (roll-Value (value.Choice k v))
  alternative_again parts k v None e h = absurd (false≢true h)
  alternative_again parts k v (Some p) e h =
      ap (λ o. o >>= λ q. part k (write_alternatives blank write parts k v) >>= λ cells. read q.sort cells >>= λ w. Some (made.Choice k w)) e
      ∙ ap (λ o. o >>= λ cells. read p.sort cells >>= λ w. Some (made.Choice k w)) (alternative_stands parts k v p e)
      ∙ ap (λ o. o >>= λ w. Some (made.Choice k w)) (again p.sort v h)
      ∙ ap Some (sym (rolls-Choice k v))

  items_again : (item : TypeId) (unused : Cells) (n : ℕ) (vs : List Value) → length vs ≤ n → list_all (inside item) vs ≡ true → read_items (read item) (length vs) (write_items unused (write item) n vs) ≡ Some vs
  items_again item unused n [] le h = refl
  items_again item unused zero (v ∷ vs) le h = absurd (omega (arith, le))
  items_again item unused (suc n) (v ∷ vs) le h =
      let first = left_of (inside item v) (list_all (inside item) vs) h in
      let others = right_of (inside item v) (list_all (inside item) vs) h in
      ap (λ o. o >>= λ w. read_items (read item) (length vs) (write_items unused (write item) n vs) >>= λ ws. Some (w ∷ ws)) (again item v first)
      ∙ ap (λ o. o >>= λ ws. Some (v ∷ ws)) (items_again item unused n vs (omega (arith, le)) others)

  array_again : (item : TypeId) (unused : Cells) (n : ℕ) (vs : List Value) → length vs ≤ suc n → list_all (inside item) vs ≡ true → read_array (read item) (length vs) (Both (write_items unused (write item) (suc n) vs) Empty) ≡ Some vs
  array_again item unused n [] le h = refl
  array_again item unused n (v ∷ vs) le h = items_again item unused (suc n) (v ∷ vs) le h

  sized_again : (lo hi : ℕ) (item : TypeId) (others : Cells) (vs : List Value) → nat_le lo (length vs) ≡ true → nat_le (length vs) hi ≡ true → read_array (read item) (length vs) others ≡ Some vs → read_seq_of (read item) lo hi (Both (Cell (pos (length vs))) others) ≡ Some (roll-Value (value.SeqOf vs))
  sized_again lo hi item others vs above within items =
      ap (λ b. only_if (b && nat_le (length vs) hi) (length vs) >>= λ n. read_array (read item) n others >>= λ ws. Some (made.SeqOf ws)) above
      ∙ ap (λ b. only_if b (length vs) >>= λ n. read_array (read item) n others >>= λ ws. Some (made.SeqOf ws)) within
      ∙ ap (λ o. o >>= λ ws. Some (made.SeqOf ws)) items
      ∙ ap Some (sym (rolls-SeqOf vs))

  seq_of_again : (lo hi : ℕ) (item : TypeId) (unused : Cells) (vs : List Value) → (nat_le lo (length vs) && (nat_le (length vs) hi && list_all (inside item) vs)) ≡ true → read_seq_of (read item) lo hi (write_seq_of unused (write item) hi vs) ≡ Some (roll-Value (value.SeqOf vs))
  seq_of_again lo zero item unused [] h = sized_again lo zero item Empty [] (left_of (nat_le lo 0) _ h) refl refl
  seq_of_again lo zero item unused (v ∷ vs) h =
      absurd (omega (arith, leb-true _ _ (left_of (nat_le (length (v ∷ vs)) 0) _ (right_of (nat_le lo (length (v ∷ vs))) _ h))))
  seq_of_again lo (suc hi) item unused vs h =
      let rest = right_of (nat_le lo (length vs)) _ h in
      let within = left_of (nat_le (length vs) (suc hi)) (list_all (inside item) vs) rest in
      sized_again lo (suc hi) item (Both (write_items unused (write item) (suc hi) vs) Empty) vs (left_of (nat_le lo (length vs)) _ h) within
      (array_again item unused hi vs (leb-true _ _ within) (right_of (nat_le (length vs) (suc hi)) (list_all (inside item) vs) rest))

  sort_again : (s : Sort) (shape : Value-F Value) → in_sort inside (Some s) shape ≡ true → read_sort read s (write_sort blank write s shape) ≡ Some (roll-Value shape)
  sort_again (sort.Int lo hi) (value.Int z) h = ap (λ b. only_if b (made.Int z)) h ∙ ap Some (sym (rolls-Int z))
  sort_again sort.Bool (value.Bool true) h = ap Some (sym (rolls-Bool true))
  sort_again sort.Bool (value.Bool false) h = ap Some (sym (rolls-Bool false))
  sort_again (sort.Enumerated names numbers) (value.Enumerated k) h =
      ap (λ b. only_if b k >>= λ n. Some (made.Enumerated n)) h ∙ ap Some (sym (rolls-Enumerated k))
  sort_again (sort.Sequence parts) (value.Sequence vs) h = sequence_again parts vs h
  sort_again (sort.Choice parts) (value.Choice k v) h = alternative_again parts k v (slice_get parts k) refl h
  sort_again (sort.SeqOf lo hi item) (value.SeqOf vs) h = seq_of_again lo hi item (blank item) vs h
  sort_again s shape h = absurd (false≢true h)

-- the same of a type of a table
by_sort : (depth : ℕ) (sorts : List Sort) → ((t : TypeId) (v : Value) → in_within depth sorts t v ≡ true → read_within depth sorts t (write_within depth sorts t v) ≡ Some v) → (v : Value) (o : Option Sort) → in_sort (in_within depth sorts) o (out-Value v) ≡ true → (o >>= λ s. read_sort (read_within depth sorts) s (cells_by (λ r. write_sort (blank_within depth sorts) (write_within depth sorts) r (out-Value v)) o)) ≡ Some v
by_sort depth sorts again v None e = absurd (false≢true e)
by_sort depth sorts again v (Some s) e =
    sort_again (read_within depth sorts) (blank_within depth sorts) (write_within depth sorts) (in_within depth sorts) again s (out-Value v) e
    ∙ ap Some (roll-out-Value v)

-- what is written is read again, going down at most so many times
within_again : (depth : ℕ) (sorts : List Sort) (t : TypeId) (v : Value) → in_within depth sorts t v ≡ true → read_within depth sorts t (write_within depth sorts t v) ≡ Some v
within_again zero sorts t v h = absurd (false≢true h)
within_again (suc depth) sorts t v h = by_sort depth sorts (within_again depth sorts) v (slice_get sorts t.0) h

-- the cells of a value hold that value
pub cells_hold : (sorts : List Sort) (t : TypeId) (v : Value) → is_in sorts t v ≡ true → value_in sorts t (cells_of sorts t v) ≡ Some v
unfolding value_in cells_of
cells_hold sorts t v h =
    let same : suc t.0 ≡ t.0 + 1 = omega arith in
    let h' : in_within (t.0 + 1) sorts t v ≡ true = ap (λ d. in_within d sorts t v) (sym same) ∙ h in
    within_again (t.0 + 1) sorts t v h'
