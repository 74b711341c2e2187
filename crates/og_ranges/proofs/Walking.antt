-- What stands at a place inside a value of a type is of the type that the selectors lead to.
use Rattle.std.proofs.Common.{◌≡◌, ℕ, zero, suc, ◌≤◌, Bool, true, false, cond, List, [], ◌∷◌, length, map, slice_get, Option, Some, None, refl, subst, arith, ℤ, pos, negsuc, Result, Ok, Err}
use Rattle.std.specs.Prelude.{nat_lt, ◌||◌}
use Rattle.std.specs.List.{list_all}
use Rattle.std.specs.Option.{option_map, option_and_then}
use Rattle.std.proofs.lemmas.Bool.{ltb-false, ltb-true}
use Rattle.std.proofs.lemmas.List.Folds.{list_all_at}
use Rattle.og_names.proofs.Truths.{both_first as left_of, both_second as right_of, neither_first, neither_second}
use Rattle.og_types.specs.declared.TypeId.{TypeId}
use Rattle.og_types.specs.declared.Part.{Part as Component}
use Rattle.og_types.specs.declared.Sort.{Sort}
use Rattle.og_types.specs.declared.Sort.TheVariants as Sorts
use Rattle.og_types.specs.declared.Value.{Value, Value-F, out-Value}
use Rattle.og_types.specs.declared.Value.TheOpen as Open
use Rattle.og_types.specs.Values.{in_parts, in_part, in_sort, in_within, no_value}
use Rattle.og_model.specs.declared.FaultKind.{FaultKind}
use Rattle.og_model.specs.declared.FaultKind.TheVariants as Fault
use Rattle.og_model.specs.declared.Target.{Target}
use Rattle.og_model.specs.declared.Select.{Select, Select-F, out-Select}
use Rattle.og_model.specs.declared.Expr.{Expr}
use Rattle.og_model.specs.declared.Node.{Node}
use Rattle.og_model.specs.declared.Node.TheOpen as Nodes
use Rattle.og_model.specs.Expressions.{Hop, ToPart, ToAlternative, ToItem, value_at, parts_in, items_in, chosen_in, alternative_in, items_of, alternative_of, hop_from, hop_by, index_below, on_value, walk_from, Walked, Evaluates, number_of, sort_after, sort_at}
use Rattle.og_model.specs.WellSorted.{hop_of}

same_some : (a b : TypeId) → ◌≡◌ {A = Option TypeId} (Some a) (Some b) → a ≡ b
same_some a b e = cc

same_ok : (g h : Hop) → ◌≡◌ {A = Result Hop FaultKind} (Ok g) (Ok h) → g ≡ h
same_ok g h e = cc

same_walked : (u w : Walked) → ◌≡◌ {A = Result Walked FaultKind} (Ok u) (Ok w) → u ≡ w
same_walked u w e = cc

together : (a b : ℕ) → (nat_lt a b || nat_lt b a) ≡ false → a ≡ b
together a b e = meet (ltb-false a b (neither_first _ _ e)) (ltb-false b a (neither_second _ _ e))
  where
    meet : b ≤ a → a ≤ b → a ≡ b
    meet le ge = omega (arith, le, ge)

-- the value is one of the type, to some depth
pub record Fits (types : List Sort) (id : TypeId) (v : Value) : Type 0 where
  pub depth : ℕ
  pub is : in_within depth types id v ≡ true

pub record FitsSort (types : List Sort) (t : Option Sort) (v : Value-F Value) : Type 0 where
  pub depth : ℕ
  pub is : in_sort (in_within depth types) t v ≡ true

pub opened : (types : List Sort) (id : TypeId) (v : Value) → Fits types id v → FitsSort types (slice_get types id.0) (out-Value v)
opened types id v fits = go fits.depth fits.is
  where
    go : (n : ℕ) → in_within n types id v ≡ true → FitsSort types (slice_get types id.0) (out-Value v)
    go zero is = cc
    go (suc n) is = record { depth = n; is = is }

part_at : (inside : TypeId → Value → Bool) (parts : List Component) (vs : List Value) (k : ℕ) (p : Component) → in_parts inside parts vs ≡ true → slice_get parts k ≡ Some p → inside p.sort (value_at vs k) ≡ true
part_at inside [] [] k p all at = cc
part_at inside [] (v ∷ vs) k p all at = cc
part_at inside (q ∷ parts) [] k p all at = cc
part_at inside (q ∷ parts) (v ∷ vs) zero p all at = subst (λ (o : Component). inside o.sort v ≡ true) (same q p at) (left_of _ _ all)
  where
    same : (a b : Component) → ◌≡◌ {A = Option Component} (Some a) (Some b) → a ≡ b
    same a b e = cc
part_at inside (q ∷ parts) (v ∷ vs) (suc k) p all at = part_at inside parts vs k p (right_of _ _ all) at

item_at : (inside : Value → Bool) (vs : List Value) (k : ℕ) → list_all inside vs ≡ true → nat_lt k (length vs) ≡ true → inside (value_at vs k) ≡ true
item_at inside vs k all lt = go (inside (value_at vs k)) refl
  where
    go : (b : Bool) → inside (value_at vs k) ≡ b → inside (value_at vs k) ≡ true
    go true is = is
    go false is = cc (list_all_at inside vs k no_value (ltb-true k (length vs) lt) is, all)

-- ---- one selector

at_part : (types : List Sort) (n k : ℕ) (t : Sort) (id : TypeId) (o : Value-F Value) → in_sort (in_within n types) (Some t) o ≡ true → sort_after (ToPart k) t ≡ Some id → in_within n types id (value_at (parts_in o) k) ≡ true
at_part types n k (Sorts.Int lo hi) id o is after = cc
at_part types n k Sorts.Bool id o is after = cc
at_part types n k (Sorts.Enumerated names numbers) id o is after = cc
at_part types n k (Sorts.Choice parts) id o is after = cc
at_part types n k (Sorts.SeqOf lo hi item) id o is after = cc
at_part types n k Sorts.Opaque id o is after = cc
at_part types n k (Sorts.Sequence parts) id (Open.Int z) is after = cc
at_part types n k (Sorts.Sequence parts) id (Open.Bool b) is after = cc
at_part types n k (Sorts.Sequence parts) id (Open.Enumerated j) is after = cc
at_part types n k (Sorts.Sequence parts) id (Open.Choice j v) is after = cc
at_part types n k (Sorts.Sequence parts) id (Open.SeqOf vs) is after = cc
at_part types n k (Sorts.Sequence parts) id (Open.Sequence vs) is after = go (slice_get parts k) refl after
  where
    go : (o : Option Component) → slice_get parts k ≡ o → option_map (λ (p : Component). p.sort) o ≡ Some id → in_within n types id (value_at vs k) ≡ true
    go None at e = cc
    go (Some p) at e = subst (λ (i : TypeId). in_within n types i (value_at vs k) ≡ true) (same_some p.sort id e) (part_at (in_within n types) parts vs k p is at)

at_alternative : (types : List Sort) (n k : ℕ) (t : Sort) (id : TypeId) (o : Value-F Value) → in_sort (in_within n types) (Some t) o ≡ true → sort_after (ToAlternative k) t ≡ Some id → alternative_in o ≡ k → in_within n types id (chosen_in o) ≡ true
at_alternative types n k (Sorts.Int lo hi) id o is after has = cc
at_alternative types n k Sorts.Bool id o is after has = cc
at_alternative types n k (Sorts.Enumerated names numbers) id o is after has = cc
at_alternative types n k (Sorts.Sequence parts) id o is after has = cc
at_alternative types n k (Sorts.SeqOf lo hi item) id o is after has = cc
at_alternative types n k Sorts.Opaque id o is after has = cc
at_alternative types n k (Sorts.Choice parts) id (Open.Int z) is after has = cc
at_alternative types n k (Sorts.Choice parts) id (Open.Bool b) is after has = cc
at_alternative types n k (Sorts.Choice parts) id (Open.Enumerated j) is after has = cc
at_alternative types n k (Sorts.Choice parts) id (Open.Sequence vs) is after has = cc
at_alternative types n k (Sorts.Choice parts) id (Open.SeqOf vs) is after has = cc
at_alternative types n k (Sorts.Choice parts) id (Open.Choice j v) is after has = go (slice_get parts k) after (subst (λ (i : ℕ). in_part (in_within n types) (slice_get parts i) v ≡ true) has is)
  where
    go : (o : Option Component) → option_map (λ (p : Component). p.sort) o ≡ Some id → in_part (in_within n types) o v ≡ true → in_within n types id v ≡ true
    go None e fits = cc
    go (Some p) e fits = subst (λ (i : TypeId). in_within n types i v ≡ true) (same_some p.sort id e) fits

at_item : (types : List Sort) (n j k : ℕ) (t : Sort) (id : TypeId) (o : Value-F Value) → in_sort (in_within n types) (Some t) o ≡ true → sort_after (ToItem j) t ≡ Some id → nat_lt k (length (items_in o)) ≡ true → in_within n types id (value_at (items_in o) k) ≡ true
at_item types n j k (Sorts.Int lo hi) id o is after lt = cc
at_item types n j k Sorts.Bool id o is after lt = cc
at_item types n j k (Sorts.Enumerated names numbers) id o is after lt = cc
at_item types n j k (Sorts.Sequence parts) id o is after lt = cc
at_item types n j k (Sorts.Choice parts) id o is after lt = cc
at_item types n j k Sorts.Opaque id o is after lt = cc
at_item types n j k (Sorts.SeqOf lo hi item) id (Open.Int z) is after lt = cc
at_item types n j k (Sorts.SeqOf lo hi item) id (Open.Bool b) is after lt = cc
at_item types n j k (Sorts.SeqOf lo hi item) id (Open.Enumerated i) is after lt = cc
at_item types n j k (Sorts.SeqOf lo hi item) id (Open.Sequence vs) is after lt = cc
at_item types n j k (Sorts.SeqOf lo hi item) id (Open.Choice i v) is after lt = cc
at_item types n j k (Sorts.SeqOf lo hi item) id (Open.SeqOf vs) is after lt =
    subst (λ (i : TypeId). in_within n types i (value_at vs k) ≡ true) (same_some item id after) (item_at (in_within n types item) vs k (right_of _ _ (right_of _ _ is)) lt)

-- a selector that does not fault leads to a value of its type
step_fits : (types : List Sort) (worth : Evaluates) (s : Select-F Node Select Expr Target) (t : Sort) (id : TypeId) (v : Value) (h : Hop) → FitsSort types (Some t) (out-Value v) → sort_after (hop_of s) t ≡ Some id → hop_by worth v s ≡ Ok h → Fits types id (hop_from v h)
step_fits types worth (Nodes.Part k) t id v h fits after is =
    subst (λ (g : Hop). Fits types id (hop_from v g)) (same_ok (ToPart k) h is) (record { depth = fits.depth; is = at_part types fits.depth k t id (out-Value v) fits.is after })
step_fits types worth (Nodes.Alternative k) t id v h fits after is = go (nat_lt (alternative_of v) k || nat_lt k (alternative_of v)) refl is
  where
    go : (b : Bool) → (nat_lt (alternative_of v) k || nat_lt k (alternative_of v)) ≡ b → ◌≡◌ {A = Result Hop FaultKind} (cond b (Err Fault.Alternative) (Ok (ToAlternative k))) (Ok h) → Fits types id (hop_from v h)
    go true apart e = cc
    go false apart e =
        subst (λ (g : Hop). Fits types id (hop_from v g)) (same_ok (ToAlternative k) h e)
        (record { depth = fits.depth; is = at_alternative types fits.depth k t id (out-Value v) fits.is after (together (alternative_of v) k apart) })
step_fits types worth (Nodes.At index) t id v h fits after is = go (worth index) is
  where
    by_number : (z : ℤ) → index_below (length (items_of v)) z ≡ Ok h → Fits types id (hop_from v h)
    by_number (negsuc n) e = cc
    by_number (pos n) e = below (nat_lt n (length (items_of v))) refl e
      where
        below : (b : Bool) → nat_lt n (length (items_of v)) ≡ b → ◌≡◌ {A = Result Hop FaultKind} (cond b (Ok (ToItem n)) (Err Fault.Index)) (Ok h) → Fits types id (hop_from v h)
        below false lt e = cc
        below true lt e =
            subst (λ (g : Hop). Fits types id (hop_from v g)) (same_ok (ToItem n) h e)
            (record { depth = fits.depth; is = at_item types fits.depth 0 n t id (out-Value v) fits.is after lt })

    go : (r : Result Value FaultKind) → on_value r (λ i. index_below (length (items_of v)) (number_of i)) ≡ Ok h → Fits types id (hop_from v h)
    go (Err kind) e = cc
    go (Ok i) e = by_number (number_of i) e

-- ---- selectors

pub nowhere : (types : List Sort) (hs : List Hop) → sort_at types None hs ≡ None
nowhere types [] = refl
nowhere types (h ∷ hs) = nowhere types hs

-- a step that leads to a value of the type next, and then the further selectors
module _ (types : List Sort) (worth : Evaluates) (x : Select) (xs : List Select) (id : TypeId) (v : Value) (w : Walked) where
  abbrev rest : List Hop
  rest = map (λ (s : Select). hop_of (out-Select s)) xs

  abbrev GoesOn : Type 0
  GoesOn = (next : TypeId) (at : Value) (u : Walked) → Fits types next at → sort_at types (Some next) rest ≡ Some id → walk_from worth at xs ≡ Ok u → Fits types id u.value

  behind : GoesOn → (next : TypeId) (h : Hop) → Fits types next (hop_from v h) → sort_at types (Some next) rest ≡ Some id → (r : Result Walked FaultKind) → walk_from worth (hop_from v h) xs ≡ r → on_value r (λ u. Ok (record { hops = h ∷ u.hops; value = u.value })) ≡ Ok w → Fits types id w.value
  behind goes next h there on (Err kind) s e = cc
  behind goes next h there on (Ok u) s e =
      subst (λ (y : Walked). Fits types id y.value) (same_walked (record { hops = h ∷ u.hops; value = u.value }) w e) (goes next (hop_from v h) u there on s)

  by_hop : GoesOn → (t : Sort) (next : TypeId) → FitsSort types (Some t) (out-Value v) → sort_after (hop_of (out-Select x)) t ≡ Some next → sort_at types (Some next) rest ≡ Some id → (r : Result Hop FaultKind) → hop_by worth v (out-Select x) ≡ r → on_value r (λ h. on_value (walk_from worth (hop_from v h) xs) (λ u. Ok (record { hops = h ∷ u.hops; value = u.value }))) ≡ Ok w → Fits types id w.value
  by_hop goes t next here after on (Err kind) s e = cc
  by_hop goes t next here after on (Ok h) s e = behind goes next h (step_fits types worth (out-Select x) t next v h here after s) on (walk_from worth (hop_from v h) xs) refl e

  by_next : GoesOn → walk_from worth v (x ∷ xs) ≡ Ok w → (t : Sort) → FitsSort types (Some t) (out-Value v) → (o : Option TypeId) → sort_after (hop_of (out-Select x)) t ≡ o → sort_at types o rest ≡ Some id → Fits types id w.value
  by_next goes is t here None after on = cc (nowhere types rest, on)
  by_next goes is t here (Some next) after on = by_hop goes t next here after on (hop_by worth v (out-Select x)) refl is

  by_sort : GoesOn → walk_from worth v (x ∷ xs) ≡ Ok w → (o : Option Sort) → FitsSort types o (out-Value v) → sort_at types (option_and_then (sort_after (hop_of (out-Select x))) o) rest ≡ Some id → Fits types id w.value
  by_sort goes is None here on = cc (nowhere types rest, on)
  by_sort goes is (Some t) here on = by_next goes is t here (sort_after (hop_of (out-Select x)) t) refl on

pub walk_fits : (types : List Sort) (worth : Evaluates) (path : List Select) (from id : TypeId) (v : Value) (w : Walked) → Fits types from v → sort_at types (Some from) (map (λ (s : Select). hop_of (out-Select s)) path) ≡ Some id → walk_from worth v path ≡ Ok w → Fits types id w.value
walk_fits types worth [] from id v w fits at is =
    subst (λ (x : Walked). Fits types id x.value) (same_walked (record { hops = []; value = v }) w is) (subst (λ (i : TypeId). Fits types i v) (same_some from id at) fits)
walk_fits types worth (x ∷ xs) from id v w fits at is =
    by_sort types worth x xs id v w (λ next there u. walk_fits types worth xs next id there u) is (slice_get types from.0) (opened types from v fits) at
