-- Where modules violate no rule on names, the names in one type differ, and so do the numbers that are written in it.
use Rattle.std.proofs.Common.{◌≡◌, ℕ, zero, suc, Bool, true, false, not, ◌&&◌, ◌||◌, List, [], ◌∷◌, ◌++◌, map, Option, Some, None, is_some, unwrap_or, slice_get, ℤ, nat_eq, refl, sym, ap, ◌∙◌, subst, true≢false, append-nil, if◌then◌else◌, ◌⊎◌, inl, inr}
use Rattle.std.specs.List.{list_any, list_all, flat_map}
use Rattle.std.specs.Str.{bytes_eq}
use Rattle.std.specs.Cmp.Lexicographic.{bytes_decides}
use Rattle.std.specs.Ordering.{int_eq}
use Rattle.std.proofs.lemmas.Bool.Decides.{Decides-int_eq, Decides-eqb}
use Rattle.std.proofs.lemmas.List.Folds.{list_any-append}
use Rattle.og_base.specs.declared.Violation.{Violation}
use Rattle.og_base.specs.declared.Rule.TheVariants.{N2, N7}
use Rattle.og_base.specs.Order.{first_of}
use Rattle.og_names.specs.Folding.{place_of}
use Rattle.og_names.proofs.Truths.{both_true, both_first, both_second, neither_first, neither_second, neither_true}
use Rattle.og_names.proofs.Places.{place_leads_back}
use Rattle.og_types.specs.Table.{all_differ, same_name}
use Rattle.og_asn1.specs.declared.syntax.Name.{Name}
use Rattle.og_asn1.specs.declared.syntax.ModuleTree.{ModuleTree}
use Rattle.og_flat.specs.declared.flat.Flat.{Flat}
use Rattle.og_flat.specs.declared.flat.Enumerator.{Enumerator}
use Rattle.og_flat.specs.declared.flat.Written.{Written}
use Rattle.og_flat.specs.declared.flat.PartNode.{PartNode}
use Rattle.og_flat.specs.declared.flat.Node.{Node}
use Rattle.og_flat.specs.declared.flat.Node.TheVariants as node
use Rattle.og_flat.specs.declared.flat.TypeNode.{TypeNode}
use Rattle.og_flat.specs.declared.flat.ConstantNode.{ConstantNode}
use Rattle.og_flat.specs.Flattening.{flat_of}
use Rattle.og_dataview.specs.Scope.{key}
use Rattle.og_dataview.specs.Following.{as_number}
use Rattle.og_dataview.specs.Violations.{violated, violated_if, is_spelt_as, folds_as, repeated, repeated_behind, repeated_names, built_in_again, given, is_given, given_again, given_behind, repeated_numbers, used_by_part, used_by_constant, in_parts, in_enumerators, in_node, in_flat, in_module, violations, first_violation}
use Rattle.og_dataview.specs.View.{name_number}
use Rattle.og_dataview.proofs.OneAnswer.{one_answer}
use Rattle.og_datatypes.specs.Fitting.{names_at, given_at, name_of_part, name_of_item}
use Rattle.og_datatypes.proofs.Distinct.{given_of, given_is, false_unless, not_false}

-- ---- no violation

abbrev None_in : List Violation → Type 0
None_in vs = vs ≡ []

none_first : (xs ys : List Violation) → None_in (xs ++ ys) → None_in xs
none_first [] ys h = refl
none_first (x ∷ xs) ys h = cc

none_second : (xs ys : List Violation) → None_in (xs ++ ys) → None_in ys
none_second [] ys h = h
none_second (x ∷ xs) ys h = cc

none_of : (vs : List Violation) → first_of vs ≡ None → None_in vs
none_of vs h = elim (one_answer vs) [ inl none ↦ none.0 | inr some ↦ let e : Some some.0 ≡ None = sym some.1 ∙ h in cc ]

none_if : (b : Bool) (v : Violation) → None_in (if b then v ∷ [] else []) → b ≡ false
none_if true v h = cc
none_if false v h = refl

none_at : {X : Type 0} (f : X → List Violation) (xs : List X) (p : ℕ) (x : X) → None_in (flat_map f xs) → slice_get xs p ≡ Some x → None_in (f x)
none_at f [] p x h e = cc
none_at f (y ∷ ys) zero x h e = subst (λ z. None_in (f z)) (ap (λ o. unwrap_or o x) e) (none_first (f y) (flat_map f ys) h)
none_at f (y ∷ ys) (suc p) x h e = none_at f ys p x (none_second (f y) (flat_map f ys) h) e

in_no_node : (modules : List ModuleTree) → first_violation modules ≡ None → (p : ℕ) (n : Node) → slice_get (flat_of modules).nodes p ≡ Some n → None_in (in_node (flat_of modules) n)
in_no_node modules h p n at =
    let flat = flat_of modules in
    let all : None_in (in_flat flat) = none_first (in_flat flat) (flat_map (in_module modules) modules) (none_of (violations modules) h) in
    let a = repeated_names (map (λ (t : TypeNode). t.name) flat.types) in
    let b = flat_map built_in_again flat.types in
    let c = repeated_names (map (λ (x : ConstantNode). x.name) flat.constants) in
    let d = flat_map (in_node flat) flat.nodes in
    let e = flat_map (used_by_constant flat) flat.constants in
    none_at (in_node flat) flat.nodes p n (none_first d e (none_second c (d ++ e) (none_second b (c ++ (d ++ e)) (none_second a (b ++ (c ++ (d ++ e))) all)))) at

-- ---- names

-- one of these: whatever none of them passes, it does not pass
abbrev OneOf : {X : Type 0} → List X → X → Type 0
OneOf {X} xs x = (test : X → Bool) → list_any test xs ≡ false → test x ≡ false

last_of : {X : Type 0} (xs : List X) (x : X) → OneOf (xs ++ x ∷ []) x
last_of xs x test h = neither_first _ _ (neither_second _ _ (sym (list_any-append test xs (x ∷ [])) ∙ h))

still_of : {X : Type 0} (xs ys : List X) (x : X) → OneOf xs x → OneOf (xs ++ ys) x
still_of xs ys x one test h = one test (neither_first _ _ (sym (list_any-append test xs ys) ∙ h))

no_earlier : (earlier : List Name) (n : Name) → None_in (repeated earlier n) → list_any (folds_as n) earlier ≡ false
no_earlier earlier n h = by (list_any (is_spelt_as n) earlier) h
  where
    by : (b : Bool) → None_in (if b then violated N2 n ∷ [] else violated_if (list_any (folds_as n) earlier) N7 n) → list_any (folds_as n) earlier ≡ false
    by true g = cc
    by false g = none_if (list_any (folds_as n) earlier) (violated N7 n) g

-- no later name folds as an earlier one
apart : (x : Name) (earlier ns : List Name) → OneOf earlier x → None_in (repeated_behind earlier ns) → list_any (λ n. folds_as n x) ns ≡ false
apart x earlier [] one h = refl
apart x earlier (n ∷ ns) one h =
    neither_true _ _ (one (folds_as n) (no_earlier earlier n (none_first (repeated earlier n) _ h)))
    (apart x (earlier ++ n ∷ []) ns (still_of earlier (n ∷ []) x one) (none_second (repeated earlier n) _ h))

abbrev pub is_in : List (List ℕ) → Name → Bool
is_in names n = is_some (place_of names (key n))

there : (names : List (List ℕ)) (n : Name) → is_in names n ≡ true → place_of names (key n) ≡ Some (unwrap_or (place_of names (key n)) 0)
there names n h = by (place_of names (key n)) h
  where
    by : (o : Option ℕ) → is_some o ≡ true → o ≡ Some (unwrap_or o 0)
    by None g = absurd (true≢false (sym g))
    by (Some k) g = refl

-- names that do not fold alike have different numbers
numbers_apart : (names : List (List ℕ)) (x n : Name) → is_in names x ≡ true → is_in names n ≡ true → folds_as n x ≡ false → same_name (name_number names x) (name_number names n) ≡ false
numbers_apart names x n hx hn other =
    false_unless (same_name (name_number names x) (name_number names n)) (λ e.
    let same : unwrap_or (place_of names (key x)) 0 ≡ unwrap_or (place_of names (key n)) 0 = (Decides-eqb (unwrap_or (place_of names (key x)) 0) (unwrap_or (place_of names (key n)) 0)).0 e in
    let at_x : slice_get names (unwrap_or (place_of names (key x)) 0) ≡ Some (key x) = place_leads_back names (key x) _ (there names x hx) in
    let at_n : slice_get names (unwrap_or (place_of names (key n)) 0) ≡ Some (key n) = place_leads_back names (key n) _ (there names n hn) in
    let keys : Some (key n) ≡ Some (key x) = sym at_n ∙ ap (slice_get names) (sym same) ∙ at_x in
    let one : key n ≡ key x = ap (λ o. unwrap_or o (key n)) keys in
    true≢false (sym ((bytes_decides (key n) (key x)).1 one) ∙ other))

none_numbered : (names : List (List ℕ)) (x : Name) (ns : List Name) → is_in names x ≡ true → list_all (is_in names) ns ≡ true → list_any (λ n. folds_as n x) ns ≡ false
    → list_any (same_name (name_number names x)) (map (name_number names) ns) ≡ false
none_numbered names x [] hx h other = refl
none_numbered names x (n ∷ ns) hx h other =
    neither_true _ _ (numbers_apart names x n hx (both_first _ _ h) (neither_first _ _ other)) (none_numbered names x ns hx (both_second _ _ h) (neither_second _ _ other))

differ_behind : (names : List (List ℕ)) (earlier ns : List Name) → list_all (is_in names) ns ≡ true → None_in (repeated_behind earlier ns) → all_differ same_name (map (name_number names) ns) ≡ true
differ_behind names earlier [] h none = refl
differ_behind names earlier (n ∷ ns) h none =
    let later = none_second (repeated earlier n) (repeated_behind (earlier ++ n ∷ []) ns) none in
    both_true _ _ (not_false _ (none_numbered names n ns (both_first _ _ h) (both_second _ _ h) (apart n (earlier ++ n ∷ []) ns (last_of earlier n) later)))
    (differ_behind names (earlier ++ n ∷ []) ns (both_second _ _ h) later)

pub names_differ : (modules : List ModuleTree) (names : List (List ℕ)) → first_violation modules ≡ None → (o : Option Node) (p : ℕ) → slice_get (flat_of modules).nodes p ≡ o → list_all (is_in names) (names_at o) ≡ true
    → all_differ same_name (map (name_number names) (names_at o)) ≡ true
names_differ modules names h (Some (node.Enumerated items is_open)) p at known =
    differ_behind names [] (map name_of_item items) known (none_first _ (repeated_numbers items) (in_no_node modules h p (node.Enumerated items is_open) at))
names_differ modules names h (Some (node.Choice parts is_plain)) p at known =
    differ_behind names [] (map name_of_part parts) known (none_first _ (flat_map (used_by_part (flat_of modules)) parts) (in_no_node modules h p (node.Choice parts is_plain) at))
names_differ modules names h (Some (node.Sequence parts is_plain)) p at known =
    differ_behind names [] (map name_of_part parts) known (none_first _ (flat_map (used_by_part (flat_of modules)) parts) (in_no_node modules h p (node.Sequence parts is_plain) at))
names_differ modules names h (Some (node.Integer limits)) p at known = refl
names_differ modules names h (Some node.Boolean) p at known = refl
names_differ modules names h (Some (node.Reference name limits)) p at known = refl
names_differ modules names h (Some (node.SequenceOf limits item)) p at known = refl
names_differ modules names h (Some (node.Other limits)) p at known = refl
names_differ modules names h None p at known = refl

-- ---- numbers

turned : (a b : ℤ) → int_eq a b ≡ false → int_eq b a ≡ false
turned a b h = false_unless (int_eq b a) (λ e. true≢false (sym ((Decides-int_eq a b).1 (sym ((Decides-int_eq b a).0 e))) ∙ h))

new_number : (earlier : List ℤ) (e : Enumerator) → None_in (given_again earlier e) → list_any (is_given earlier) (given e) ≡ false
new_number earlier e h = none_if (list_any (is_given earlier) (given e)) (violated N2 e.name) h

number_apart : (z : ℤ) (earlier : List ℤ) (es : List Enumerator) → OneOf earlier z → None_in (given_behind earlier es) → list_any (int_eq z) (flat_map given es) ≡ false
number_apart z earlier [] one h = refl
number_apart z earlier (e ∷ es) one h =
    list_any-append (int_eq z) (given e) (flat_map given es)
    ∙ neither_true _ _ (ap (list_any (int_eq z)) (given_is e) ∙ here e.number (ap (list_any (is_given earlier)) (sym (given_is e)) ∙ new_number earlier e (none_first (given_again earlier e) _ h)))
    (number_apart z (earlier ++ given e) es (still_of earlier (given e) z one) (none_second (given_again earlier e) _ h))
  where
    here : (o : Option Written) → list_any (is_given earlier) (given_of o) ≡ false → list_any (int_eq z) (given_of o) ≡ false
    here None g = refl
    here (Some n) g = neither_true _ _ (turned (as_number n) z (one (int_eq (as_number n)) (neither_first _ _ g))) refl

numbers_behind : (earlier : List ℤ) (es : List Enumerator) → None_in (given_behind earlier es) → all_differ int_eq (flat_map given es) ≡ true
numbers_behind earlier [] h = refl
numbers_behind earlier (e ∷ es) h = ap (λ zs. all_differ int_eq (zs ++ flat_map given es)) (given_is e) ∙ by e.number (subst (λ zs. None_in (given_behind (earlier ++ zs) es)) (given_is e) later)
    (λ zs g. numbers_behind zs es g)
  where
    later : None_in (given_behind (earlier ++ given e) es)
    later = none_second (given_again earlier e) _ h

    by : (o : Option Written) → None_in (given_behind (earlier ++ given_of o) es) → ((zs : List ℤ) → None_in (given_behind zs es) → all_differ int_eq (flat_map given es) ≡ true) → all_differ int_eq (given_of o ++ flat_map given es) ≡ true
    by None g rest = rest (earlier ++ []) g
    by (Some n) g rest =
        both_true _ _ (not_false _ (number_apart (as_number n) (earlier ++ as_number n ∷ []) es (last_of earlier (as_number n)) g)) (rest (earlier ++ as_number n ∷ []) g)

pub written_differ : (modules : List ModuleTree) → first_violation modules ≡ None → (o : Option Node) (p : ℕ) → slice_get (flat_of modules).nodes p ≡ o → all_differ int_eq (given_at o) ≡ true
written_differ modules h (Some (node.Enumerated items is_open)) p at =
    numbers_behind [] items (none_second (repeated_names (map name_of_item items)) (repeated_numbers items) (in_no_node modules h p (node.Enumerated items is_open) at))
written_differ modules h (Some (node.Choice parts is_plain)) p at = refl
written_differ modules h (Some (node.Sequence parts is_plain)) p at = refl
written_differ modules h (Some (node.Integer limits)) p at = refl
written_differ modules h (Some node.Boolean) p at = refl
written_differ modules h (Some (node.Reference name limits)) p at = refl
written_differ modules h (Some (node.SequenceOf limits item)) p at = refl
written_differ modules h (Some (node.Other limits)) p at = refl
written_differ modules h None p at = refl
