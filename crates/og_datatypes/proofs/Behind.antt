-- Each type of the view may stand behind those before it in the order: it needs types of smaller numbers only, which are less deep.
use Rattle.std.proofs.Common.{◌≡◌, ℕ, zero, suc, ◌+◌, ◌-◌, ◌^◌, ◌≤◌, ◌<◌, max, Bool, true, false, not, ◌&&◌, ◌||◌, ◌==◌, cond, IsTrue, List, [], ◌∷◌, ◌++◌, length, map, take, filter, slice_get, Option, Some, None, is_some, nat_lt, nat_le, nat_eq, ℤ, pos, negsuc, nat_abs, int_le, refl, sym, ap, ◌∙◌, arith, subst, ◌⊎◌, inl, inr, true≢false, eqb-true, length-append, if◌then◌else◌}
use Rattle.std.specs.List.{list_all, list_any, range_with_len, flat_map}
use Rattle.std.proofs.lemmas.Bool.Decides.{Decides-eqb}
use Rattle.std.proofs.lemmas.Bool.{lt-ltb, ltb-true, le-leb, leb-true}
use Rattle.std.proofs.lemmas.List.FromFn.{get_or-range_with_len, length-range_with_len}
use Rattle.std.specs.Ordering.{int_eq}
use Rattle.std.proofs.lemmas.List.{map_more, length-map, length-take-le, take_all}
use Rattle.std.proofs.lemmas.Option.{slice_get-get_or, slice_get_within, get_or_from_slice_get}
use Rattle.og_names.specs.declared.NameId.{NameId}
use Rattle.og_names.proofs.Truths.{both_true, both_first, both_second, not_true, same_value}
use Rattle.og_types.specs.declared.TypeId.{TypeId}
use Rattle.og_types.specs.declared.Part.{Part}
use Rattle.og_types.specs.declared.Sort.{Sort}
use Rattle.og_types.specs.declared.Sort.TheVariants as sort
use Rattle.og_types.specs.Values.{IsDownward}
use Rattle.og_types.specs.Table.{in_64_bits, is_empty, all_differ, same_name, depth, depth_of_parts, depth_of_sort, are_parts_below, is_sort_after, is_table, MayStandBehind}
use Rattle.og_types.proofs.Downward.{depth_stays, depth_behind, Below as Refers}
use Rattle.og_types.proofs.Tables.{refers_below, tables_are_downward}
use Rattle.og_types.proofs.Added.{same_below, last_is, still_table}
use Rattle.og_flat.specs.declared.flat.Flat.{Flat}
use Rattle.og_flat.specs.declared.flat.Limits.{Limits}
use Rattle.og_flat.specs.declared.flat.Limits.TheVariants as limits
use Rattle.og_flat.specs.declared.flat.Enumerator.{Enumerator}
use Rattle.og_flat.specs.declared.flat.PartNode.{PartNode}
use Rattle.og_flat.specs.declared.flat.Node.{Node}
use Rattle.og_flat.specs.declared.flat.Node.TheVariants as node
use Rattle.og_dataview.specs.declared.numbers.Interval.{Interval}
use Rattle.og_dataview.specs.Following.{bounds, usable, is_usable, is_integer_type, numbers_of, interval_of}
use Rattle.og_dataview.specs.Violations.{given}
use Rattle.og_dataview.specs.View.{same_as, is_own, has_form, is_truth, is_size, size_by, size_of, needed, node_of_part, is_made_of, is_within, is_supported, greatest_depth, all_nodes, is_deeper, deeper, up_to, opaque, in_order, place_in, type_number, name_number, part_by, integer_sort, items_sort, sort_by, sort_of, enumerator_numbers}
use Rattle.og_datatypes.specs.Fitting.{Fits, IsFew, names_at, given_at, name_of_part, name_of_item}
use Rattle.og_datatypes.proofs.Lists.{below_or_not}
use Rattle.og_datatypes.proofs.Depths.{same_same}
use Rattle.og_datatypes.proofs.Distinct.{long_as, numbers_fit, numbers_differ}

-- ---- where a type stands in lists

split : (xs ys : List ℕ) (i p : ℕ) → slice_get (xs ++ ys) i ≡ Some p → (slice_get xs i ≡ Some p) ⊎ ((k : ℕ) × (i ≡ length xs + k) × (slice_get ys k ≡ Some p))
split [] ys i p e = inr (i, omega arith, e)
split (x ∷ xs) ys zero p e = inl e
split (x ∷ xs) ys (suc i) p e = elim (split xs ys i p e) [ inl h ↦ inl h | inr r ↦ inr (r.0, omega (arith, r.1), r.2) ]

in_front : (xs ys : List ℕ) (k q : ℕ) → slice_get xs k ≡ Some q → slice_get (xs ++ ys) k ≡ Some q
in_front [] ys k q e = cc
in_front (x ∷ xs) ys zero q e = e
in_front (x ∷ xs) ys (suc k) q e = in_front xs ys k q e

passes : (test : ℕ → Bool) (xs : List ℕ) (k p : ℕ) → slice_get (filter test xs) k ≡ Some p → test p ≡ true
passes test [] k p e = cc
passes test (x ∷ xs) k p e = by (test x) refl (λ j h. passes test xs j p h) k e
  where
    by : (b : Bool) → test x ≡ b → ((k : ℕ) → slice_get (filter test xs) k ≡ Some p → test p ≡ true) → (k : ℕ)
        → slice_get (cond b (x ∷ filter test xs) (filter test xs)) k ≡ Some p → test p ≡ true
    by true t rest zero h = ap test (sym (same_value x p h)) ∙ t
    by true t rest (suc k) h = rest k h
    by false t rest k h = rest k h

passed : (test : ℕ → Bool) (xs : List ℕ) (j q : ℕ) → slice_get xs j ≡ Some q → test q ≡ true → (k : ℕ) × (slice_get (filter test xs) k ≡ Some q)
passed test [] j q e t = cc
passed test (x ∷ xs) zero q e t =
    let same : test x ≡ true = ap test (same_value x q e) ∙ t in
    (0, ap (λ b. slice_get (cond b (x ∷ filter test xs) (filter test xs)) 0) same ∙ e)
passed test (x ∷ xs) (suc j) q e t = let r = passed test xs j q e t in by (test x) r
  where
    by : (b : Bool) → (k : ℕ) × (slice_get (filter test xs) k ≡ Some q) → (k : ℕ) × (slice_get (cond b (x ∷ filter test xs) (filter test xs)) k ≡ Some q)
    by true r = (suc r.0, r.1)
    by false r = r

same_test : (q r : ℕ) → q ≡ r → (q == r) ≡ true
same_test q r e = (Decides-eqb q r).1 e

place_at_most : (xs : List ℕ) (k q : ℕ) → slice_get xs k ≡ Some q → place_in xs q ≤ k
place_at_most [] k q e = cc
place_at_most (x ∷ xs) zero q e =
    let here : place_in (x ∷ xs) q ≡ 0 = ap (λ b. cond (not b) (1 + place_in xs q) 0) (same_test x q (same_value x q e)) in
    omega (arith, here)
place_at_most (x ∷ xs) (suc k) q e = by (x == q) (place_at_most xs k q e)
  where
    by : (b : Bool) → place_in xs q ≤ k → cond (not b) (1 + place_in xs q) 0 ≤ suc k
    by true le = omega arith
    by false le = omega (arith, le)

got_behind : (xs ys : List ℕ) (k q i : ℕ) → i ≡ length xs + k → slice_get ys k ≡ Some q → slice_get (xs ++ ys) i ≡ Some q
got_behind [] ys k q i e g = let z : i ≡ k = omega (arith, e) in ap (slice_get ys) z ∙ g
got_behind (x ∷ xs) ys k q zero e g = absurd (omega (arith, e))
got_behind (x ∷ xs) ys k q (suc i) e g = got_behind xs ys k q i (omega (arith, e)) g

-- ---- depths

pub depth_is : greatest_depth ≡ 64
unfolding greatest_depth
depth_is = refl

module _ (flat : Flat) where
  abbrev less_deep : ℕ → ℕ
  less_deep d = length (up_to flat d)

  one_deeper : (d : ℕ) → less_deep d ≤ less_deep (suc d)
  one_deeper d = let e : length (up_to flat d ++ deeper flat d) ≡ less_deep d + length (deeper flat d) = length-append (up_to flat d) (deeper flat d) in omega (arith, e)

  some_deeper : (d k : ℕ) → less_deep d ≤ less_deep (d + k)
  some_deeper d zero = let z : d + 0 ≡ d = omega arith in rw z (omega arith)
  some_deeper d (suc k) = let z : d + suc k ≡ suc (d + k) = omega arith in rw z (omega (arith, some_deeper d k, one_deeper (d + k)))

  less_by : (d e : ℕ) → d ≤ e → less_deep d ≤ less_deep e
  less_by d e le = let z : d + (e - d) ≡ e = omega (arith, le) in subst (λ m. less_deep d ≤ less_deep m) z (some_deeper d (e - d))

  -- a type of the order that is less deep than so was found at one depth
  found_at : (d i p : ℕ) → slice_get (up_to flat d) i ≡ Some p → (e : ℕ) × (e < d) × (less_deep e ≤ i) × (is_deeper flat e p ≡ true)
  found_at zero i p h = cc
  found_at (suc d) i p h =
      elim (split (up_to flat d) (deeper flat d) i p h) [
        | inl l ↦ let r = found_at d i p l in (r.0, omega (arith, r.1), r.2, r.3)
        | inr r ↦ (d, omega arith, omega (arith, r.1), passes (is_deeper flat d) (all_nodes flat) r.0 p r.2)
      ]

  there_is : (p : ℕ) → p < length flat.nodes → slice_get (all_nodes flat) p ≡ Some p
  there_is p lt =
      slice_get-get_or (all_nodes flat) p p (omega (arith, lt, length-range_with_len 0 (length flat.nodes)))
      ∙ ap Some (get_or-range_with_len 0 (length flat.nodes) p p lt ∙ (let z : 0 + p ≡ p = omega arith in z))

  formed : (inside : ℕ → Bool) (p : ℕ) → is_made_of flat inside p ≡ true → p < length flat.nodes
  formed inside p made = by (slice_get flat.nodes p) refl (both_first _ _ made)
    where
      by : (o : Option Node) → slice_get flat.nodes p ≡ o → has_form flat p o ≡ true → p < length flat.nodes
      by None e h = absurd (true≢false (sym h))
      by (Some n) e h = slice_get_within flat.nodes p n e

  -- an own type that is at most so deep stands in the order before all that are deeper
  reached : (d q : ℕ) → is_within flat d q ≡ true → same_as flat q ≡ q → (k : ℕ) × (slice_get (up_to flat d) k ≡ Some q)
  reached zero q h own = absurd (true≢false (sym h))
  reached (suc d) q h own = by (is_within flat d q) refl (λ g. reached d q g own)
    where
      by : (b : Bool) → is_within flat d q ≡ b → (is_within flat d q ≡ true → (k : ℕ) × (slice_get (up_to flat d) k ≡ Some q)) → (k : ℕ) × (slice_get (up_to flat d ++ deeper flat d) k ≡ Some q)
      by true g before = let r = before g in (r.0, in_front (up_to flat d) (deeper flat d) r.0 q r.1)
      by false g before =
          let lt : q < length flat.nodes = formed (is_within flat d) q (ap (is_made_of flat (is_within flat d)) (sym own) ∙ h) in
          let new : is_deeper flat d q ≡ true = both_true _ _ (same_test (same_as flat q) q own) (both_true _ _ h (ap not g)) in
          let r = passed (is_deeper flat d) (all_nodes flat) q q (there_is q lt) new in
          (less_deep d + r.0, got_behind (up_to flat d) (deeper flat d) r.0 q (less_deep d + r.0) refl r.1)

  within_same : (d q : ℕ) → is_within flat d (same_as flat q) ≡ is_within flat d q
  within_same zero q = refl
  within_same (suc d) q = ap (is_made_of flat (is_within flat d)) (same_same flat q)

  stays_there : (d k i q : ℕ) → slice_get (up_to flat d) i ≡ Some q → slice_get (up_to flat (k + d)) i ≡ Some q
  stays_there d zero i q h = let z : 0 + d ≡ d = omega arith in ap (λ m. slice_get (up_to flat m) i) z ∙ h
  stays_there d (suc k) i q h =
      let z : suc k + d ≡ suc (k + d) = omega arith in
      ap (λ m. slice_get (up_to flat m) i) z ∙ in_front (up_to flat (k + d)) (deeper flat (k + d)) i q (stays_there d k i q h)

  in_whole : (d i q : ℕ) → d ≤ greatest_depth → slice_get (up_to flat d) i ≡ Some q → slice_get (in_order flat) i ≡ Some q
  in_whole d i q le h =
      let z : greatest_depth - d + d ≡ greatest_depth = omega (arith, le) in
      in_front (up_to flat greatest_depth) (opaque flat) i q (ap (λ m. slice_get (up_to flat m) i) (sym z) ∙ stays_there d (greatest_depth - d) i q h)

  -- a type that is at most so deep has the number of one of those
  number_below : (d q : ℕ) → d ≤ greatest_depth → is_within flat d q ≡ true → place_in (in_order flat) (same_as flat q) < less_deep d
  number_below d q le h =
      let r = reached d (same_as flat q) (within_same d q ∙ h) (same_same flat q) in
      let lt : r.0 < less_deep d = slice_get_within (up_to flat d) r.0 (same_as flat q) r.1 in
      let most : place_in (in_order flat) (same_as flat q) ≤ r.0 = place_at_most (in_order flat) r.0 (same_as flat q) (in_whole d r.0 (same_as flat q) le r.1) in
      omega (arith, lt, most)

-- ---- forms

integer_stands : (n : ℕ) (b c : Bool) (i : Interval) → is_usable i ≡ c → is_some (if b then (if c then Some i else None) else None) ≡ true
    → is_sort_after n (integer_sort (if b then (if c then Some i else None) else None)) ≡ true
integer_stands n true true i u h = u
integer_stands n true false i u h = absurd (true≢false (sym h))
integer_stands n false c i u h = absurd (true≢false (sym h))

bounds_stand : (flat : Flat) (n p : ℕ) → is_some (bounds flat p) ≡ true → is_sort_after n (integer_sort (bounds flat p)) ≡ true
bounds_stand flat n p h = integer_stands n (is_integer_type flat p) (is_usable (numbers_of flat p)) (numbers_of flat p) refl h

-- the depth of an integer type, and of one that is opaque
shallow : (inside : TypeId → ℕ) (o : Option Interval) → depth_of_sort inside (Some (integer_sort o)) ≡ 1
shallow inside None = refl
shallow inside (Some i) = refl

items_stand : (n : ℕ) (o : Option Interval) (item : TypeId) → is_some (size_by o) ≡ true → item.0 < n → is_sort_after n (items_sort (size_by o) item) ≡ true
items_stand n None item h lt = absurd (true≢false (sym h))
items_stand n (Some i) item h lt = by (is_size i) refl h
  where
    sizes : (lo hi : ℤ) → (int_le (pos 0) lo && (int_le lo hi && int_le hi (pos 65536))) ≡ true → (nat_le (nat_abs lo) (nat_abs hi) && (nat_le (nat_abs hi) 65536 && nat_lt item.0 n)) ≡ true
    sizes (pos a) (pos b) s =
        let t : (nat_le a b && nat_le b 65536) ≡ true = both_second (nat_le 0 a) (nat_le a b && nat_le b 65536) s in
        both_true (nat_le a b) (nat_le b 65536 && nat_lt item.0 n) (both_first (nat_le a b) (nat_le b 65536) t)
        (both_true (nat_le b 65536) (nat_lt item.0 n) (both_second (nat_le a b) (nat_le b 65536) t) (lt-ltb item.0 n lt))
    sizes (pos a) (negsuc b) s = absurd (true≢false (sym (both_second (nat_le 0 a) false s)))
    sizes (negsuc a) hi s = absurd (true≢false (sym s))

    by : (b : Bool) → is_size i ≡ b → is_some (if b then Some i else None) ≡ true → is_sort_after n (items_sort (if b then Some i else None) item) ≡ true
    by true s g = sizes i.lo i.hi s
    by false s g = absurd (true≢false (sym g))

items_depth : (inside : TypeId → ℕ) (d : ℕ) (o : Option Interval) (item : TypeId) → inside item ≤ d → depth_of_sort inside (Some (items_sort o item)) ≤ suc d
items_depth inside d None item le = omega arith
items_depth inside d (Some i) item le = omega (arith, le)

module _ (names : List (List ℕ)) (number : ℕ → TypeId) where
  any_part : (x : NameId) (ps : List PartNode) → list_any (same_name x) (map (name_number names) (map name_of_part ps)) ≡ list_any (λ (q : Part). same_name x q.name) (map (part_by names number) ps)
  any_part x [] = refl
  any_part x (p ∷ ps) = ap (λ b. same_name x (name_number names p.name) || b) (any_part x ps)

  parts_differ : (ps : List PartNode) → all_differ same_name (map (name_number names) (map name_of_part ps)) ≡ all_differ (λ (p q : Part). same_name p.name q.name) (map (part_by names number) ps)
  parts_differ [] = refl
  parts_differ (p ∷ ps) = λ i. not (any_part (name_number names p.name) ps i) && parts_differ ps i

  module _ (n d : ℕ) (inside : ℕ → Bool) (depth_of : TypeId → ℕ) (known : (q : ℕ) → inside q ≡ true → ((number q).0 < n) × (depth_of (number q) ≤ d)) where
    parts_below : (ps : List PartNode) → list_all inside (map node_of_part ps) ≡ true → list_all (λ (p : Part). nat_lt p.sort.0 n) (map (part_by names number) ps) ≡ true
    parts_below [] h = refl
    parts_below (p ∷ ps) h = both_true _ _ (lt-ltb (number p.node).0 n (known p.node (both_first _ _ h)).0) (parts_below ps (both_second _ _ h))

    parts_depth : (ps : List PartNode) → list_all inside (map node_of_part ps) ≡ true → depth_of_parts depth_of (map (part_by names number) ps) ≤ d
    parts_depth [] h = omega arith
    parts_depth (p ∷ ps) h = let here = (known p.node (both_first _ _ h)).1 in omega (arith, here, parts_depth ps (both_second _ _ h))

    parts_stand : (ps : List PartNode) → all_differ same_name (map (name_number names) (map name_of_part ps)) ≡ true → list_all inside (map node_of_part ps) ≡ true
        → are_parts_below n (map (part_by names number) ps) ≡ true
    parts_stand ps differ h = both_true _ _ (parts_below ps h) (sym (parts_differ ps) ∙ differ)

no_parts : (names : List (List ℕ)) (number : ℕ → TypeId) (ps : List PartNode) → not (is_empty ps) ≡ true → not (is_empty (map (part_by names number) ps)) ≡ true
no_parts names number [] h = h
no_parts names number (p ∷ ps) h = refl

-- ---- one type

pub record Stands (types : List Sort) (d : ℕ) (s : Sort) : Type 0 where
  pub right : is_sort_after (length types) s ≡ true
  pub deep : depth_of_sort (depth types) (Some s) ≤ suc d

opaque_stands : (types : List Sort) (d : ℕ) → Stands types d sort.Opaque
opaque_stands types d = record { right = refl; deep = omega arith }

few_at_least : (inside : TypeId → ℕ) (items : List NameId) (numbers : List ℤ) (d : ℕ) → depth_of_sort inside (Some (sort.Enumerated items numbers)) ≤ suc d
few_at_least inside items numbers d = omega arith

item_names : (names : List (List ℕ)) (items : List Enumerator) → map (name_number names) (map name_of_item items) ≡ map (λ (e : Enumerator). name_number names e.name) items
item_names names [] = refl
item_names names (e ∷ es) = ap (λ ids. name_number names e.name ∷ ids) (item_names names es)

no_items : (names : List (List ℕ)) (items : List Enumerator) → not (is_empty items) ≡ true → not (is_empty (map (λ (e : Enumerator). name_number names e.name) items)) ≡ true
no_items names [] h = h
no_items names (e ∷ es) h = refl

as_many : (names : List (List ℕ)) (items : List Enumerator) → length (map (λ (e : Enumerator). name_number names e.name) items) ≡ length items
as_many names [] = refl
as_many names (e ∷ es) = ap suc (as_many names es)

module _ (flat : Flat) (names : List (List ℕ)) (fits : Fits names flat) (types : List Sort) (p : ℕ) where
  -- what is known of the types that are at most so deep
  abbrev Known : ℕ → Type 0
  Known d = (q : ℕ) → is_within flat d q ≡ true → ((type_number flat q).0 < length types) × (depth types (type_number flat q) ≤ d)

  names_at_node : (o : Option Node) → slice_get flat.nodes p ≡ o → all_differ same_name (map (name_number names) (names_at o)) ≡ true
  names_at_node o e = subst (λ x. all_differ same_name (map (name_number names) (names_at x)) ≡ true) e (fits.names_differ p)

  numbers_at_node : (o : Option Node) → slice_get flat.nodes p ≡ o → all_differ int_eq (given_at o) ≡ true
  numbers_at_node o e = subst (λ x. all_differ int_eq (given_at x) ≡ true) e (fits.numbers_differ p)

  form_stands : (d : ℕ) → Known d → (o : Option Node) → slice_get flat.nodes p ≡ o → has_form flat p o ≡ true → list_all (is_within flat d) (needed o) ≡ true
      → IsFew (sort_by flat names (type_number flat) p o) → Stands types d (sort_by flat names (type_number flat) p o)
  form_stands d known None e form inside few = absurd (true≢false (sym form))
  form_stands d known (Some (node.Integer limits)) e form inside few = record {
    right = bounds_stand flat (length types) p form;
    deep = let s : depth_of_sort (depth types) (Some (integer_sort (bounds flat p))) ≡ 1 = shallow (depth types) (bounds flat p) in omega (arith, s);
  }
  form_stands d known (Some node.Boolean) e form inside few = record { right = refl; deep = omega arith }
  form_stands d known (Some (node.Reference name limits)) e form inside few = by (is_truth flat name limits) form
    where
      by : (b : Bool) → (b || is_some (bounds flat p)) ≡ true → Stands types d (if b then sort.Bool else integer_sort (bounds flat p))
      by true h = record { right = refl; deep = omega arith }
      by false h = record {
        right = bounds_stand flat (length types) p h;
        deep = let s : depth_of_sort (depth types) (Some (integer_sort (bounds flat p))) ≡ 1 = shallow (depth types) (bounds flat p) in omega (arith, s);
      }
  form_stands d known (Some (node.Enumerated items is_open)) e form inside few =
      let long : length (enumerator_numbers items) ≡ length items = long_as (flat_map given items) 0 items in
      let many : length (enumerator_numbers items) ≡ length (map (λ (x : Enumerator). name_number names x.name) items) = long ∙ sym (as_many names items) in
      let fewer : length (enumerator_numbers items) < 2 ^ 32 = few in
      let small : length items < 2 ^ 32 = omega (arith, fewer, long) in
      record {
        right = both_true _ _ (no_items names items (both_first _ _ (both_second _ _ form)))
            (both_true _ _ (same_test _ _ many)
            (both_true _ _ (numbers_fit items small (both_second _ _ (both_second _ _ form)))
            (both_true _ _ (ap (all_differ same_name) (sym (item_names names items)) ∙ names_at_node (Some (node.Enumerated items is_open)) e)
            (numbers_differ items (numbers_at_node (Some (node.Enumerated items is_open)) e)))));
        deep = few_at_least (depth types) (map (λ (x : Enumerator). name_number names x.name) items) (enumerator_numbers items) d;
      }
  form_stands d known (Some (node.Choice parts is_plain)) e form inside few = record {
    right = both_true _ _ (no_parts names (type_number flat) parts (both_second _ _ form))
        (parts_stand names (type_number flat) (length types) d (is_within flat d) (depth types) known parts (names_at_node (Some (node.Choice parts is_plain)) e) inside);
    deep = let s = parts_depth names (type_number flat) (length types) d (is_within flat d) (depth types) known parts inside in omega (arith, s);
  }
  form_stands d known (Some (node.Sequence parts is_plain)) e form inside few = record {
    right = parts_stand names (type_number flat) (length types) d (is_within flat d) (depth types) known parts (names_at_node (Some (node.Sequence parts is_plain)) e) inside;
    deep = let s = parts_depth names (type_number flat) (length types) d (is_within flat d) (depth types) known parts inside in omega (arith, s);
  }
  form_stands d known (Some (node.SequenceOf (limits.Size range) item)) e form inside few =
      let k = known item (both_first _ _ inside) in
      record {
        right = items_stand (length types) (interval_of flat range) (type_number flat item) form k.0;
        deep = items_depth (depth types) d (size_by (interval_of flat range)) (type_number flat item) k.1;
      }
  form_stands d known (Some (node.SequenceOf limits.Absent item)) e form inside few = absurd (true≢false (sym form))
  form_stands d known (Some (node.SequenceOf (limits.Range range) item)) e form inside few = absurd (true≢false (sym form))
  form_stands d known (Some (node.SequenceOf limits.Other item)) e form inside few = absurd (true≢false (sym form))
  form_stands d known (Some (node.Other limits)) e form inside few = absurd (true≢false (sym form))

  deep_stands : (d : ℕ) → Known d → is_deeper flat d p ≡ true → IsFew (sort_of flat names p) → Stands types d (sort_of flat names p)
  deep_stands d known new few = by (is_supported flat p) few
    where
      own : same_as flat p ≡ p
      own = eqb-true (same_as flat p) p (both_first (is_own flat p) (is_within flat (suc d) p && not (is_within flat d p)) new)

      later : (is_within flat (suc d) p && not (is_within flat d p)) ≡ true
      later = both_second (is_own flat p) (is_within flat (suc d) p && not (is_within flat d p)) new

      made : is_made_of flat (is_within flat d) p ≡ true
      made = ap (is_made_of flat (is_within flat d)) (sym own) ∙ both_first (is_within flat (suc d) p) (not (is_within flat d p)) later

      by : (b : Bool) → IsFew (if b then sort_by flat names (type_number flat) p (slice_get flat.nodes p) else sort.Opaque)
          → Stands types d (if b then sort_by flat names (type_number flat) p (slice_get flat.nodes p) else sort.Opaque)
      by true few = form_stands d known (slice_get flat.nodes p) refl (both_first _ _ made) (both_second _ _ made) few
      by false few = opaque_stands types d

-- ---- all types

-- the types of the order before one place, of which each is as deep as it was found to be
pub record Standing (flat : Flat) (names : List (List ℕ)) (i : ℕ) (types : List Sort) : Type 0 where
  pub is : types ≡ map (sort_of flat names) (take i (in_order flat))
  pub table : is_table types ≡ true
  pub deep : (j e : ℕ) → j < i → e ≤ greatest_depth → j < length (up_to flat e) → depth types (record { 0 = j }) ≤ e

pub standing_first : (flat : Flat) (names : List (List ℕ)) → Standing flat names 0 []
standing_first flat names = record { is = refl; table = refl; deep = λ j e lt le h. absurd (omega (arith, lt)) }

module _ (flat : Flat) (names : List (List ℕ)) (fits : Fits names flat) (i p : ℕ) (types : List Sort) (standing : Standing flat names i types) (at : slice_get (in_order flat) i ≡ Some p)
    (few : IsFew (sort_of flat names p)) where
  within : i < length (in_order flat)
  within = slice_get_within (in_order flat) i p at

  long : length types ≡ i
  long = ap length standing.is ∙ length-map (take i (in_order flat)) (sort_of flat names) ∙ length-take-le i (in_order flat) (omega (arith, within))

  record Found : Type 0 where
    pub d : ℕ
    pub less : d < greatest_depth
    pub stands : Stands types d (sort_of flat names p)
    pub deeper_than : (e : ℕ) → e ≤ greatest_depth → i < length (up_to flat e) → suc d ≤ e

  found : Found
  found = elim (split (up_to flat greatest_depth) (opaque flat) i p at) [ inl l ↦ deep_found (found_at flat greatest_depth i p l) | inr r ↦ opaque_found r.0 r.1 r.2 ]
    where
      known : (d : ℕ) → d < greatest_depth → length (up_to flat d) ≤ i → Known flat names fits types p d
      known d lt le q h =
          let below : place_in (in_order flat) (same_as flat q) < length (up_to flat d) = number_below flat d q (omega (arith, lt)) h in
          (omega (arith, below, le, long), standing.deep (place_in (in_order flat) (same_as flat q)) d (omega (arith, below, le)) (omega (arith, lt)) below)

      deep_found : ((d : ℕ) × (d < greatest_depth) × (length (up_to flat d) ≤ i) × (is_deeper flat d p ≡ true)) → Found
      deep_found r = record {
        d = r.0;
        less = r.1;
        stands = deep_stands flat names fits types p r.0 (known r.0 r.1 r.2) r.3 few;
        deeper_than = λ e le lt. elim (below_or_not r.0 e) [
          | inl h ↦ omega (arith, h)
          | inr h ↦ let less = less_by flat e r.0 h in absurd (omega (arith, less, lt, r.2))
        ];
      }

      opaque_found : (k : ℕ) → i ≡ length (up_to flat greatest_depth) + k → slice_get (opaque flat) k ≡ Some p → Found
      opaque_found k e h =
          let left = passes (λ q. is_own flat q && not (is_supported flat q)) (all_nodes flat) k p h in
          let none : is_supported flat p ≡ false = not_true (is_supported flat p) (both_second (is_own flat p) (not (is_supported flat p)) left) in
          record {
            d = 0;
            less = omega (arith, depth_is);
            stands = subst (λ b. Stands types 0 (if b then sort_by flat names (type_number flat) p (slice_get flat.nodes p) else sort.Opaque)) (sym none) (opaque_stands types 0);
            deeper_than = λ x le lt. let less = less_by flat x greatest_depth le in absurd (omega (arith, less, lt, e));
          }

  pub may : MayStandBehind types (sort_of flat names p)
  may = let f = found in record { sort = f.stands.right; depth = let a = f.stands.deep in let b = f.less in omega (arith, a, b, depth_is) }

  last_depth : depth (types ++ sort_of flat names p ∷ []) (record { 0 = length types }) ≡ depth_of_sort (depth types) (Some (sort_of flat names p))
  last_depth =
      let refers = subst (Refers (length types)) (sym (last_is types (sort_of flat names p))) (refers_below (length types) (sort_of flat names p) may.sort) in
      depth_behind (length types) types (types ++ sort_of flat names p ∷ []) (tables_are_downward types standing.table) (same_below types (sort_of flat names p ∷ [])) refers
      ∙ ap (depth_of_sort (depth types)) (last_is types (sort_of flat names p))

  pub standing_more : Standing flat names (i + 1) (types ++ sort_of flat names p ∷ [])
  standing_more = record {
    is = (λ x. standing.is x ++ sort_of flat names p ∷ []) ∙ ap (λ q. map (sort_of flat names) (take i (in_order flat)) ++ sort_of flat names q ∷ []) (sym (get_or_from_slice_get (in_order flat) i p p at))
        ∙ sym (map_more (sort_of flat names) (in_order flat) i p within);
    table = still_table types (sort_of flat names p) standing.table may;
    deep = λ j e lt le h. by j e le h (below_or_not j i) lt;
  }
    where
      by : (j e : ℕ) → e ≤ greatest_depth → j < length (up_to flat e) → (j < i) ⊎ (i ≤ j) → j < i + 1 → depth (types ++ sort_of flat names p ∷ []) (record { 0 = j }) ≤ e
      by j e le h (inl lt) below =
          subst (λ n. n ≤ e)
          (depth_stays (length types) types (types ++ sort_of flat names p ∷ []) (tables_are_downward types standing.table) (same_below types (sort_of flat names p ∷ [])) (record { 0 = j }) (omega (arith, lt, long)))
          (standing.deep j e lt le h)
      by j e le h (inr ge) below =
          let f = found in
          let same : length types ≡ j = omega (arith, ge, below, long) in
          let a : depth_of_sort (depth types) (Some (sort_of flat names p)) ≤ suc f.d = f.stands.deep in
          let b : suc f.d ≤ e = f.deeper_than e le (omega (arith, ge, below, h)) in
          let c : depth_of_sort (depth types) (Some (sort_of flat names p)) ≤ e = omega (arith, a, b) in
          subst (λ n. depth (types ++ sort_of flat names p ∷ []) (record { 0 = n }) ≤ e) same (subst (λ n. n ≤ e) (sym last_depth) c)

pub standing_all : (flat : Flat) (names : List (List ℕ)) (i : ℕ) (types : List Sort) → length (in_order flat) ≤ i → Standing flat names i types → types ≡ map (sort_of flat names) (in_order flat)
standing_all flat names i types le standing = standing.is ∙ ap (map (sort_of flat names)) (take_all i (in_order flat) le)

pub may_stand : (flat : Flat) (names : List (List ℕ)) (i p : ℕ) (types : List Sort) (s : Sort) → Fits names flat → slice_get (in_order flat) i ≡ Some p → s ≡ sort_of flat names p → IsFew s
    → Standing flat names i types → MayStandBehind types s
may_stand flat names i p types s fits at is few standing =
    subst (λ x. MayStandBehind types x) (sym is) (may flat names fits i p types standing at (subst IsFew is few))

pub one_more : (flat : Flat) (names : List (List ℕ)) (i p : ℕ) (types next : List Sort) (s : Sort) → Fits names flat → slice_get (in_order flat) i ≡ Some p → s ≡ sort_of flat names p → IsFew s
    → next ≡ types ++ s ∷ [] → Standing flat names i types → Standing flat names (i + 1) next
one_more flat names i p types next s fits at is few more standing =
    subst (λ ts. Standing flat names (i + 1) ts) (sym (more ∙ ap (λ x. types ++ x ∷ []) is)) (standing_more flat names fits i p types standing at (subst IsFew is few))

pub few_types : (flat : Flat) (names : List (List ℕ)) (i : ℕ) (types : List Sort) → i < length (in_order flat) → Standing flat names i types → length types ≡ i
few_types flat names i types lt standing =
    ap length standing.is ∙ length-map (take i (in_order flat)) (sort_of flat names) ∙ length-take-le i (in_order flat) (omega (arith, lt))

pub ruleset behind = (standing_first, may_stand, one_more, few_types, standing_all)
