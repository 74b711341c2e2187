-- The text that a value shows has a form that means the value.
use Rattle.std.proofs.Common.{◌≡◌, ℕ, zero, suc, ◌+◌, ◌<◌, ◌≤◌, Bool, true, false, cond, not, ◌&&◌, nat_eq, nat_le, nat_lt, ℤ, codes, List, [], ◌∷◌, ◌++◌, length, map, slice_get, Option, Some, None, option_map, refl, sym, ap, ◌∙◌, subst, arith, append_assoc}
use Rattle.std.specs.List.{list_all}
use Rattle.std.proofs.lemmas.Bool.{false≢true, ltb-true}
use Rattle.std.specs.Fmt.{signed_decimal}
use Rattle.std.proofs.lemmas.Option.{none-some, slice_get-get_or}
use Rattle.og_names.specs.declared.NameId.{NameId}
use Rattle.og_names.specs.Folding.{folded, place_of}
use Rattle.og_names.specs.Table.{IsTable}
use Rattle.og_names.proofs.Truths.{both_true, both_first, both_second, same_value}
use Rattle.og_types.specs.declared.TypeId.{TypeId}
use Rattle.og_types.specs.declared.Part.{Part}
use Rattle.og_types.specs.declared.Sort.{Sort}
use Rattle.og_types.specs.declared.Sort.TheVariants as Sorts
use Rattle.og_types.specs.declared.Value.{Value, Value-F, out-Value, roll-Value, roll-out-Value}
use Rattle.og_types.specs.declared.Value as Values
use Rattle.og_types.specs.declared.Value.TheOpen as Open
use Rattle.og_types.specs.declared.Value.TheViews.{rolls-Int, rolls-Bool, rolls-Enumerated, rolls-Sequence, rolls-Choice, rolls-SeqOf}
use Rattle.og_types.specs.Values.{is_between, in_parts, in_part, in_sort, in_within, is_in}
use Rattle.og_types.specs.Table.{in_64_bits, is_empty, all_differ, same_name, is_sort_after, depth_of_parts, depth_of_sort, depth_within, depth, is_table}
use Rattle.og_types.proofs.Tables.{sort_after}
use Rattle.og_value.specs.Forms.{Form, Number, Truth, Name, Alternative, Items, Parts, Forms, no_item, item, Fields, no_part, part, Spells, is_truth, is_name, is_alternative, are_none, are_items, are_parts, ItemsGoOn, no_more_items, further_item, PartsGoOn, no_more_parts, further_part, nesting, nesting_of_items, nesting_of_parts}
use Rattle.og_value.specs.Reads.{◌>>=◌, Names, Chosen, as_number, place_among, names_of, chosen, chosen_at, as_items, is_called, value_of, values_of, fields_of}
use Rattle.og_value.specs.Shows.{name_text, truth_text, enumerator_text, separated, braced, part_text, part_texts, alternative_text, text_of_sort, text_within, shown}
use Rattle.og_value.specs.Named.{has_spelling, have_names, has_names_of_sort, has_names_within, has_names}
use Rattle.og_value.proofs.Decimals.{number_text}
use Rattle.og_value.proofs.Placed.{name_is, called, enumerator_among, part_among}

-- ---- texts in braces

-- what stands behind the first text, and the end of the braces
pub after_first : List (List ℕ) → List ℕ
after_first [] = codes "}"
after_first (text ∷ texts) = codes ", " ++ (text ++ after_first texts)

closed : (text : List ℕ) (texts : List (List ℕ)) → separated (text ∷ texts) ++ codes "}" ≡ text ++ after_first texts
unfolding after_first
closed text [] = refl
closed text (other ∷ texts) =
    append_assoc text (codes ", " ++ separated (other ∷ texts)) (codes "}") ∙ ap (λ xs. text ++ (codes ", " ++ xs)) (closed other texts)

in_braces : (text : List ℕ) (texts : List (List ℕ)) → 123 ∷ (text ++ after_first texts) ≡ braced (text ∷ texts)
in_braces text texts = ap (λ xs. 123 ∷ xs) (sym (closed text texts))

-- a component's text, and what stands behind it
regrouped : (name text more : List ℕ) → name ++ (32 ∷ (text ++ more)) ≡ (name ++ (codes " " ++ text)) ++ more
regrouped name text more = sym (append_assoc name (32 ∷ text) more)

-- ---- what is told

module _ (types : List Sort) (names : Names) where
  -- the text is of a form that means the value of the type
  pub record Told (sort : Option Sort) (text : List ℕ) (v : Value) (most : ℕ) : Type 0 where
    pub form : Form
    pub spelt : Spells form text
    pub means : value_of types names sort form ≡ Some v
    pub nested : nesting form ≤ most

  record ItemsTold (sort : Option Sort) (more : List ℕ) (vs : List Value) (most : ℕ) : Type 0 where
    forms : Forms
    spelt : ItemsGoOn forms more
    means : values_of types names sort forms ≡ Some vs
    nested : nesting_of_items forms ≤ most

  record PartsTold (parts : List Part) (more : List ℕ) (vs : List Value) (most : ℕ) : Type 0 where
    fields : Fields
    spelt : PartsGoOn fields more
    means : fields_of types names parts fields ≡ Some vs
    nested : nesting_of_parts fields ≤ most

  module _ (numbered : IsTable names) (inside : TypeId → Value → Bool) (named : TypeId → Bool) (show : TypeId → Value → List ℕ) (deep : TypeId → ℕ)
      (inner : (id : TypeId) (v : Value) → inside id v ≡ true → named id ≡ true → Told (slice_get types id.0) (show id v) v (deep id)) where
    items_told : (id : TypeId) (vs : List Value) → list_all (inside id) vs ≡ true → named id ≡ true
        → ItemsTold (slice_get types id.0) (after_first (map (show id) vs)) vs (deep id)
    unfolding after_first
    items_told id [] h n = record { forms = no_item; spelt = no_more_items; means = refl; nested = omega arith }
    items_told id (v ∷ vs) h n =
        let one = inner id v (both_first _ _ h) n in
        let others = items_told id vs (both_second (inside id v) _ h) n in
        record {
          forms = item one.form others.forms;
          spelt = further_item (32 ∷ []) [] refl one.spelt refl others.spelt;
          means = ap (λ o. o >>= λ u. option_map (λ us. u ∷ us) (values_of types names (slice_get types id.0) others.forms)) one.means
              ∙ ap (option_map (λ us. v ∷ us)) others.means;
          nested = omega (arith, one.nested, others.nested);
        }

    -- one component
    field_means : (p : Part) (parts : List Part) (word : List ℕ) (f : Form) (fs : Fields) (v : Value) (vs : List Value)
        → is_called names word p.name ≡ true → value_of types names (slice_get types p.sort.0) f ≡ Some v → fields_of types names parts fs ≡ Some vs
        → fields_of types names (p ∷ parts) (part word f fs) ≡ Some (v ∷ vs)
    field_means p parts word f fs v vs c e es =
        ap (λ b. cond b (value_of types names (slice_get types p.sort.0) f) None >>= λ u. option_map (λ us. u ∷ us) (fields_of types names parts fs)) c
        ∙ ap (λ o. o >>= λ u. option_map (λ us. u ∷ us) (fields_of types names parts fs)) e
        ∙ ap (option_map (λ us. v ∷ us)) es

    parts_told : (parts : List Part) (vs : List Value) → in_parts inside parts vs ≡ true → have_names named names parts ≡ true
        → PartsTold parts (after_first (part_texts show names parts vs)) vs (depth_of_parts deep parts)
    unfolding after_first
    parts_told [] [] h n = record { fields = no_part; spelt = no_more_parts; means = refl; nested = omega arith }
    parts_told [] (v ∷ vs) h n = absurd (false≢true h)
    parts_told (p ∷ parts) [] h n = absurd (false≢true h)
    parts_told (p ∷ parts) (v ∷ vs) h n =
        let here = both_first (has_spelling names p.name && named p.sort) _ n in
        let name = name_is names numbered p.name (both_first _ _ here) in
        let one = inner p.sort v (both_first _ _ h) (both_second (has_spelling names p.name) _ here) in
        let others = parts_told parts vs (both_second (inside p.sort v) _ h) (both_second (has_spelling names p.name && named p.sort) _ n) in
        record {
          fields = part (name_text names p.name) one.form others.fields;
          spelt = subst (λ xs. PartsGoOn (part (name_text names p.name) one.form others.fields) (44 ∷ 32 ∷ xs))
              (regrouped (name_text names p.name) (show p.sort v) (after_first (part_texts show names parts vs)))
              (further_part (32 ∷ []) (name_text names p.name) (32 ∷ []) [] refl name.name refl tt one.spelt refl others.spelt);
          means = field_means p parts (name_text names p.name) one.form others.fields v vs (called names p.name _ name) one.means others.means;
          nested = omega (arith, one.nested, others.nested);
        }

    -- ---- each sort

    empty_told : Told (Some (Sorts.Sequence [])) (braced []) (Values.Sequence []) 1
    empty_told = record { form = Items no_item; spelt = are_none [] refl; means = refl; nested = omega arith }

    sequence_told : (parts : List Part) (vs : List Value) → in_parts inside parts vs ≡ true → have_names named names parts ≡ true
        → Told (Some (Sorts.Sequence parts)) (braced (part_texts show names parts vs)) (Values.Sequence vs) (1 + depth_of_parts deep parts)
    sequence_told [] [] h n = empty_told
    sequence_told [] (v ∷ vs) h n = absurd (false≢true h)
    sequence_told (p ∷ parts) [] h n = absurd (false≢true h)
    sequence_told (p ∷ parts) (v ∷ vs) h n =
        let here = both_first (has_spelling names p.name && named p.sort) _ n in
        let name = name_is names numbered p.name (both_first _ _ here) in
        let one = inner p.sort v (both_first _ _ h) (both_second (has_spelling names p.name) _ here) in
        let others = parts_told parts vs (both_second (inside p.sort v) _ h) (both_second (has_spelling names p.name && named p.sort) _ n) in
        let fields : Fields = part (name_text names p.name) one.form others.fields in
        record {
          form = Parts fields;
          spelt = subst (Spells (Parts fields))
              (ap (λ xs. 123 ∷ xs) (regrouped (name_text names p.name) (show p.sort v) (after_first (part_texts show names parts vs)))
              ∙ in_braces (part_text show names p v) (part_texts show names parts vs))
              (are_parts [] (name_text names p.name) (32 ∷ []) [] refl name.name refl tt one.spelt refl others.spelt);
          means = ap (option_map Values.Sequence)
              (field_means p parts (name_text names p.name) one.form others.fields v vs (called names p.name _ name) one.means others.means);
          nested = omega (arith, one.nested, others.nested);
        }

    -- as many items as the size allows
    sized : (lo hi : ℕ) (id : TypeId) (fs : Forms) (vs : List Value) → (nat_le lo (length vs) && nat_le (length vs) hi) ≡ true
        → values_of types names (slice_get types id.0) fs ≡ Some vs → value_of types names (Some (Sorts.SeqOf lo hi id)) (Items fs) ≡ Some (Values.SeqOf vs)
    sized lo hi id fs vs size e =
        ap (λ o. o >>= as_items (Some (Sorts.SeqOf lo hi id))) e ∙ ap (λ b. cond b (Some (Values.SeqOf vs)) None) size

    seq_of_told : (lo hi : ℕ) (id : TypeId) (vs : List Value) → (nat_le lo (length vs) && nat_le (length vs) hi) ≡ true → list_all (inside id) vs ≡ true
        → named id ≡ true → Told (Some (Sorts.SeqOf lo hi id)) (braced (map (show id) vs)) (Values.SeqOf vs) (1 + deep id)
    seq_of_told lo hi id [] size h n =
        record { form = Items no_item; spelt = are_none [] refl; means = sized lo hi id no_item [] size refl; nested = omega arith }
    seq_of_told lo hi id (v ∷ vs) size h n =
        let one = inner id v (both_first _ _ h) n in
        let others = items_told id vs (both_second (inside id v) _ h) n in
        let forms : Forms = item one.form others.forms in
        record {
          form = Items forms;
          spelt = subst (Spells (Items forms)) (in_braces (show id v) (map (show id) vs)) (are_items [] [] refl one.spelt refl others.spelt);
          means = sized lo hi id forms (v ∷ vs) size
              (ap (λ o. o >>= λ u. option_map (λ us. u ∷ us) (values_of types names (slice_get types id.0) others.forms)) one.means
              ∙ ap (option_map (λ us. v ∷ us)) others.means);
          nested = omega (arith, one.nested, others.nested);
        }

    -- what a part at a place has
    part_has : (parts : List Part) (k : ℕ) (p : Part) → have_names named names parts ≡ true → slice_get parts k ≡ Some p
        → (has_spelling names p.name ≡ true) × (named p.sort ≡ true) × (deep p.sort ≤ depth_of_parts deep parts)
    part_has [] k p n e = absurd (none-some p e)
    part_has (q ∷ parts) zero p n e =
        let here = both_first (has_spelling names q.name && named q.sort) _ n in
        let same = same_value q p e in (
          ap (λ (r : Part). has_spelling names r.name) (sym same) ∙ both_first _ _ here,
          ap (λ (r : Part). named r.sort) (sym same) ∙ both_second (has_spelling names q.name) _ here,
          omega (arith, ap (λ (r : Part). deep r.sort) same),
        )
    part_has (q ∷ parts) (suc k) p n e =
        let more = part_has parts k p (both_second (has_spelling names q.name && named q.sort) _ n) e in
        (more.0, more.1, omega (arith, more.2))

    -- the word is the name of this alternative
    alternative_means : (parts : List Part) (k : ℕ) (p : Part) (word : List ℕ) (f : Form) (v : Value)
        → place_of names (folded word) ≡ Some p.name.0 → place_among (names_of parts) p.name.0 ≡ Some k → slice_get parts k ≡ Some p
        → value_of types names (slice_get types p.sort.0) f ≡ Some v
        → value_of types names (Some (Sorts.Choice parts)) (Alternative word f) ≡ Some (Values.Choice k v)
    alternative_means parts k p word f v placed among at e =
        let value : Chosen → Option Value = λ (a : Chosen). option_map (Values.Choice a.place) (value_of types names (slice_get types a.sort.0) f) in
        ap (λ o. o >>= place_among (names_of parts) >>= chosen_at parts >>= value) placed
        ∙ ap (λ o. o >>= chosen_at parts >>= value) among
        ∙ ap (λ o. option_map (λ (q : Part). chosen k q.sort) o >>= value) at
        ∙ ap (option_map (Values.Choice k)) e

    choice_told : (parts : List Part) (k : ℕ) (v : Value) (o : Option Part) → slice_get parts k ≡ o → in_part inside o v ≡ true
        → all_differ (λ (x y : Part). same_name x.name y.name) parts ≡ true → have_names named names parts ≡ true
        → Told (Some (Sorts.Choice parts)) (alternative_text show names o v) (Values.Choice k v) (1 + depth_of_parts deep parts)
    choice_told parts k v None e h d n = absurd (false≢true h)
    choice_told parts k v (Some p) e h d n =
        let has = part_has parts k p n e in
        let name = name_is names numbered p.name has.0 in
        let one = inner p.sort v h has.1 in
        record {
          form = Alternative (name_text names p.name) one.form;
          spelt = is_alternative (name_text names p.name) [] (32 ∷ []) name.name refl refl one.spelt;
          means = alternative_means parts k p (name_text names p.name) one.form v name.place (part_among parts k p d e) e one.means;
          nested = omega (arith, one.nested, has.2);
        }

    spelling_at : (ids : List NameId) (k : ℕ) (id : NameId) → list_all (has_spelling names) ids ≡ true → slice_get ids k ≡ Some id → has_spelling names id ≡ true
    spelling_at [] k id n e = absurd (none-some id e)
    spelling_at (x ∷ ids) zero id n e = ap (has_spelling names) (sym (same_value x id e)) ∙ both_first _ _ n
    spelling_at (x ∷ ids) (suc k) id n e = spelling_at ids k id (both_second (has_spelling names x) _ n) e

    enumerator_told : (ids : List NameId) (numbers : List ℤ) (k : ℕ) (o : Option NameId) → slice_get ids k ≡ o → k < length ids
        → all_differ same_name ids ≡ true → list_all (has_spelling names) ids ≡ true
        → Told (Some (Sorts.Enumerated ids numbers)) (enumerator_text names o) (Values.Enumerated k) 1
    enumerator_told ids numbers k None e lt d n = absurd (none-some _ (sym e ∙ slice_get-get_or ids k (record { 0 = 0 }) lt))
    enumerator_told ids numbers k (Some id) e lt d n =
        let name = name_is names numbered id (spelling_at ids k id n e) in
        record {
          form = Name (name_text names id);
          spelt = is_name (name_text names id) name.name;
          means = ap (λ o. option_map Values.Enumerated (o >>= place_among ids)) name.place
              ∙ ap (option_map Values.Enumerated) (enumerator_among ids k id d e);
          nested = omega arith;
        }

    truth_told : (b : Bool) → Told (Some Sorts.Bool) (truth_text b) (Values.Bool b) 1
    truth_told true = record { form = Truth true; spelt = is_truth true (codes "TRUE") refl; means = refl; nested = omega arith }
    truth_told false = record { form = Truth false; spelt = is_truth false (codes "FALSE") refl; means = refl; nested = omega arith }

    number_told : (lo hi z : ℤ) → in_64_bits lo ≡ true → in_64_bits hi ≡ true → is_between lo hi z ≡ true
        → Told (Some (Sorts.Int lo hi)) (signed_decimal z) (Values.Int z) 1
    number_told lo hi z l h between =
        let text = number_text lo hi z l h between in
        record {
          form = Number text.negative text.digits;
          spelt = text.spelt;
          means = ap (as_number (Some (Sorts.Int lo hi))) text.is ∙ ap (λ b. cond b (Some (Values.Int z)) None) between;
          nested = omega arith;
        }

    meaning : (sort : Option Sort) (text : List ℕ) (v w : Value) (most : ℕ) → w ≡ v → Told sort text v most → Told sort text w most
    meaning sort text v w most e told = subst (λ u. Told sort text u most) (sym e) told

    sort_told : (n : ℕ) (s : Sort) (shape : Value-F Value) → is_sort_after n s ≡ true → in_sort inside (Some s) shape ≡ true
        → has_names_of_sort named names (Some s) ≡ true
        → Told (Some s) (text_of_sort show names (Some s) shape) (roll-Value shape) (depth_of_sort deep (Some s))
    sort_told n (Sorts.Int lo hi) (Open.Int z) a h m =
        meaning _ _ _ _ _ (rolls-Int z) (number_told lo hi z (both_first _ _ a) (both_first _ _ (both_second (in_64_bits lo) _ a)) h)
    sort_told n Sorts.Bool (Open.Bool b) a h m = meaning _ _ _ _ _ (rolls-Bool b) (truth_told b)
    sort_told n (Sorts.Enumerated ids numbers) (Open.Enumerated k) a h m =
        let sizes = both_second (not (is_empty ids)) _ a in
        let bits = both_second (nat_eq (length numbers) (length ids)) _ sizes in
        let differ = both_second (list_all in_64_bits numbers) _ bits in
        meaning _ _ _ _ _ (rolls-Enumerated k)
        (enumerator_told ids numbers k (slice_get ids k) refl (ltb-true k (length ids) h) (both_first _ _ differ) m)
    sort_told n (Sorts.Sequence parts) (Open.Sequence vs) a h m = meaning _ _ _ _ _ (rolls-Sequence vs) (sequence_told parts vs h m)
    sort_told n (Sorts.Choice parts) (Open.Choice k v) a h m =
        let below = both_second (not (is_empty parts)) _ a in
        meaning _ _ _ _ _ (rolls-Choice k v)
        (choice_told parts k v (slice_get parts k) refl h (both_second (list_all (λ (p : Part). nat_lt p.sort.0 n) parts) _ below) m)
    sort_told n (Sorts.SeqOf lo hi id) (Open.SeqOf vs) a h m =
        let more = both_second (nat_le lo (length vs)) _ h in
        meaning _ _ _ _ _ (rolls-SeqOf vs)
        (seq_of_told lo hi id vs (both_true (nat_le lo (length vs)) (nat_le (length vs) hi) (both_first (nat_le lo (length vs)) _ h) (both_first (nat_le (length vs) hi) _ more))
        (both_second (nat_le (length vs) hi) _ more) m)
    sort_told n s shape a h m = absurd (false≢true h)

  -- ---- a whole value

  module _ (table : is_table types ≡ true) (numbered : IsTable names) where
    by_sort : (d : ℕ) (id : TypeId) (v : Value)
        → ((x : TypeId) (u : Value) → in_within d types x u ≡ true → has_names_within d types names x ≡ true
        → Told (slice_get types x.0) (text_within d types names x u) u (depth_within d types x))
        → (o : Option Sort) → slice_get types id.0 ≡ o
        → in_sort (in_within d types) o (out-Value v) ≡ true → has_names_of_sort (has_names_within d types names) names o ≡ true
        → Told o (text_of_sort (text_within d types names) names o (out-Value v)) v (depth_of_sort (depth_within d types) o)
    by_sort d id v inner None e h m = absurd (false≢true h)
    by_sort d id v inner (Some s) e h m =
        subst (λ u. Told (Some s) (text_of_sort (text_within d types names) names (Some s) (out-Value v)) u (depth_of_sort (depth_within d types) (Some s)))
        (roll-out-Value v)
        (sort_told numbered (in_within d types) (has_names_within d types names) (text_within d types names) (depth_within d types) inner
        id.0 s (out-Value v) (sort_after types table id.0 s e) h m)

    told_within : (d : ℕ) (id : TypeId) (v : Value) → in_within d types id v ≡ true → has_names_within d types names id ≡ true
        → Told (slice_get types id.0) (text_within d types names id v) v (depth_within d types id)
    told_within zero id v h m = absurd (false≢true h)
    told_within (suc d) id v h m = by_sort d id v (told_within d) (slice_get types id.0) refl h m

    -- the text of a value has a form that means the value
    pub shown_told : (id : TypeId) (v : Value) → is_in types id v ≡ true → has_names types names id ≡ true
        → Told (slice_get types id.0) (shown types names id v) v (depth types id)
    shown_told id v h m = told_within (suc id.0) id v h m
