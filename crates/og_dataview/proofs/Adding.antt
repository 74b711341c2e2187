-- Loops that add names to a table, which keeps those that it has.
use Rattle.std.proofs.Common.{◌≡◌, ℕ, ◌+◌, ◌≤◌, ◌<◌, List, [], ◌∷◌, ◌++◌, length, get_or, map, Option, Some, None, is_some, if◌then◌else◌, refl, sym, ap, ◌∙◌, append_assoc}
use Rattle.std.proofs.lemmas.List.{append-nil, map-append}
use Rattle.std.specs.List.{flat_map}
use Rattle.og_names.specs.Folding.{place_of, with_name}
use Rattle.og_names.proofs.Loops.{Left, left_first, left_more, left_all}
use Rattle.og_asn1.specs.declared.syntax.Name.{Name}
use Rattle.og_asn1.specs.declared.syntax.EnumTree.{EnumTree}
use Rattle.og_asn1.specs.declared.syntax.CompTree.{CompTree, out-CompTree}
use Rattle.og_flat.specs.Flattening.{enumerator_of, enumerators_of}
use Rattle.og_dataview.specs.Scope.{key}
use Rattle.og_dataview.specs.View.{name_of_item, names_by_part, names_in_parts, names_in, with_names}
use Rattle.og_dataview.specs.Naming.{IsFront}

pub front_same : (names : List (List ℕ)) → IsFront names names
front_same names = record { more = []; is = sym (append-nil names) }

pub front_equal : (old new : List (List ℕ)) → new ≡ old → IsFront old new
front_equal old new e = record { more = []; is = e ∙ sym (append-nil old) }

pub front_on : (a b c : List (List ℕ)) → IsFront a b → IsFront b c → IsFront a c
front_on a b c p q = record { more = p.more ++ q.more; is = q.is ∙ ap (λ xs. xs ++ q.more) p.is ∙ append_assoc a p.more q.more }

pub front_name : (old new : List (List ℕ)) (k : List ℕ) → new ≡ with_name old k → IsFront old new
front_name old new k e = by (place_of old k) e
  where
    by : (o : Option ℕ) → new ≡ (if is_some o then old else old ++ k ∷ []) → IsFront old new
    by (Some n) f = front_equal old new f
    by None f = record { more = k ∷ []; is = f }

with_both : (table : List (List ℕ)) (xs ys : List Name) → with_names table (xs ++ ys) ≡ with_names (with_names table xs) ys
with_both table [] ys = refl
with_both table (x ∷ xs) ys = with_both (with_name table (key x)) xs ys

-- after what stands before the i-th
pub record Adding {X : Type 0} (rest : List X → List Name) (xs : List X) (i : ℕ) (first now : List (List ℕ)) : Type 0 where
  pub left : Left (λ ys. with_names now (rest ys)) xs i (with_names first (rest xs))
  pub front : IsFront first now

pub adding_first : {X : Type 0} (rest : List X → List Name) (xs : List X) (first : List (List ℕ)) → Adding rest xs 0 first first
adding_first rest xs first = record { left = left_first (λ ys. with_names first (rest ys)) xs; front = front_same first }

adding_more : {X : Type 0} (rest : List X → List Name) (one : X → List Name) → ((x : X) (ys : List X) → rest (x ∷ ys) ≡ one x ++ rest ys) → (xs : List X) (i : ℕ) (x : X) (first now next : List (List ℕ))
    → i < length xs → x ≡ get_or xs i x → next ≡ with_names now (one x) → IsFront now next → Adding rest xs i first now → Adding rest xs (i + 1) first next
adding_more rest one split xs i x first now next lt at e front before = record {
  left = left_more (λ ys. with_names now (rest ys)) (λ ys. with_names next (rest ys)) xs i x _ lt at
      (λ ys. ap (with_names now) (split x ys) ∙ with_both now (one x) (rest ys) ∙ ap (λ t. with_names t (rest ys)) (sym e)) before.left;
  front = front_on first now next before.front front;
}

pub adding_all : {X : Type 0} (rest : List X → List Name) → rest [] ≡ [] → (xs : List X) (i : ℕ) (first now : List (List ℕ)) → length xs ≤ i → Adding rest xs i first now → now ≡ with_names first (rest xs)
adding_all rest none xs i first now le adding = sym (ap (with_names now) none) ∙ left_all (λ ys. with_names now (rest ys)) xs i _ le adding.left

pub added_mapped : {X : Type 0} (f : X → List Name) (xs : List X) (i : ℕ) (x : X) (first now next : List (List ℕ)) → i < length xs → x ≡ get_or xs i x → next ≡ with_names now (f x) → IsFront now next
    → Adding (flat_map f) xs i first now → Adding (flat_map f) xs (i + 1) first next
added_mapped f = adding_more (flat_map f) f (λ x ys. refl)

pub mapped_all : {X : Type 0} (f : X → List Name) (xs : List X) (i : ℕ) (first now : List (List ℕ)) → length xs ≤ i → Adding (flat_map f) xs i first now → now ≡ with_names first (flat_map f xs)
mapped_all f = adding_all (flat_map f) refl

pub added_part : (xs : List CompTree) (i : ℕ) (x : CompTree) (first now next : List (List ℕ)) → i < length xs → x ≡ get_or xs i x → next ≡ with_names now (names_by_part names_in (out-CompTree x)) → IsFront now next
    → Adding (names_in_parts names_in) xs i first now → Adding (names_in_parts names_in) xs (i + 1) first next
added_part = adding_more (names_in_parts names_in) (λ c. names_by_part names_in (out-CompTree c)) (λ x ys. refl)

pub parts_all : (xs : List CompTree) (i : ℕ) (first now : List (List ℕ)) → length xs ≤ i → Adding (names_in_parts names_in) xs i first now → now ≡ with_names first (names_in_parts names_in xs)
parts_all = adding_all (names_in_parts names_in) refl

abbrev pub item_names : List EnumTree → List Name
item_names items = map name_of_item (enumerators_of items)

pub added_item : (xs : List EnumTree) (i : ℕ) (x : EnumTree) (first now next : List (List ℕ)) → i < length xs → x ≡ get_or xs i x → next ≡ with_names now (map name_of_item (enumerator_of x)) → IsFront now next
    → Adding item_names xs i first now → Adding item_names xs (i + 1) first next
added_item = adding_more item_names (λ t. map name_of_item (enumerator_of t)) (λ x ys. map-append name_of_item (enumerator_of x) (enumerators_of ys))

pub items_all : (xs : List EnumTree) (i : ℕ) (first now : List (List ℕ)) → length xs ≤ i → Adding item_names xs i first now → now ≡ with_names first (map name_of_item (enumerators_of xs))
items_all = adding_all item_names refl

pub adding_front : {X : Type 0} (rest : List X → List Name) (xs : List X) (i : ℕ) (first now next : List (List ℕ)) → Adding rest xs i first now → IsFront now next → IsFront first next
adding_front rest xs i first now next adding front = front_on first now next adding.front front

pub adding_kept : {X : Type 0} (rest : List X → List Name) (xs : List X) (i : ℕ) (first now : List (List ℕ)) → Adding rest xs i first now → IsFront first now
adding_kept rest xs i first now adding = adding.front

pub ruleset adds = (front_same, front_equal, front_on, front_name, adding_first, added_mapped, mapped_all, added_part, parts_all, added_item, items_all, adding_front, adding_kept)
