-- The names of parts and enumerators of all types are among those that the modules declare, so a table has them once these are added.
use Rattle.std.proofs.Common.{◌≡◌, ℕ, zero, suc, ◌+◌, Bool, true, false, ◌&&◌, List, [], ◌∷◌, ◌++◌, length, map, Option, Some, None, is_some, unwrap_or, slice_get, refl, sym, ap, ◌∙◌, subst, ◌⊎◌, inl, inr, true≢false}
use Rattle.std.specs.List.{list_all, flat_map}
use Rattle.std.proofs.lemmas.List.Folds.{list_all-append}
use Rattle.og_names.specs.Folding.{place_of, with_name}
use Rattle.og_names.proofs.Truths.{both_true, both_first, both_second}
use Rattle.og_names.proofs.Places.{placed, earlier_stays, with_known, with_new, place_at_end}
use Rattle.og_asn1.specs.declared.syntax.Name.{Name}
use Rattle.og_asn1.specs.declared.syntax.ModuleTree.{ModuleTree}
use Rattle.og_asn1.specs.declared.syntax.AssignmentTree.{AssignmentTree}
use Rattle.og_asn1.specs.declared.syntax.AssignmentTree.TheVariants as assignment
use Rattle.og_asn1.specs.declared.syntax.TypeTree.{TypeTree, size-TypeTree}
use Rattle.og_asn1.specs.declared.syntax.BaseTree.{BaseTree, BaseTree-F, out-BaseTree}
use Rattle.og_asn1.specs.declared.syntax.BaseTree.TheOpen.{Integer, Boolean, Reference, Enumerated, Choice, Sequence, Set, SequenceOf, SetOf, Real, Null, OctetString, ObjectIdentifier, BitString, CompTree-F, Part, Extension}
use Rattle.og_asn1.specs.declared.syntax.OfTree.{OfTree, out-OfTree}
use Rattle.og_asn1.specs.declared.syntax.CompTree.{CompTree, out-CompTree}
use Rattle.og_flat.specs.declared.flat.Flat.{Flat}
use Rattle.og_flat.specs.declared.flat.Node.{Node}
use Rattle.og_flat.specs.Flattening.{Parts, parts_of, parts_by, nodes_by, nodes_within, nodes_of, with_assignment, with_assignments, with_modules, no_flat, flat_of}
use Rattle.og_dataview.specs.Scope.{key}
use Rattle.og_dataview.specs.View.{names_by_part, names_in_parts, names_by, names_within, names_in, names_declared_by, declared_names, with_names, names_after}
use Rattle.og_datatypes.specs.Fitting.{names_at, name_of_part}
use Rattle.og_datatypes.proofs.Apart.{is_in}

module _ (holds : Name → Bool) where
  -- all names of these pass the test
  abbrev Named : List Name → Type 0
  Named ns = list_all holds ns ≡ true

  abbrev node_holds : Node → Bool
  node_holds n = list_all holds (names_at (Some n))

  abbrev Nodes : List Node → Type 0
  Nodes nodes = list_all node_holds nodes ≡ true

  named_first : (xs ys : List Name) → Named (xs ++ ys) → Named xs
  named_first xs ys h = both_first _ _ (sym (list_all-append holds xs ys) ∙ h)

  named_second : (xs ys : List Name) → Named (xs ++ ys) → Named ys
  named_second xs ys h = both_second _ _ (sym (list_all-append holds xs ys) ∙ h)

  nodes_both : (xs ys : List Node) → Nodes xs → Nodes ys → Nodes (xs ++ ys)
  nodes_both xs ys h g = list_all-append node_holds xs ys ∙ both_true _ _ h g

  abbrev Holds : (TypeTree → List Name) → (ℕ → TypeTree → List Node) → Type 0
  Holds names nodes = (n : ℕ) (t : TypeTree) → Named (names t) → Nodes (nodes n t)

  module _ (names : TypeTree → List Name) (nodes : ℕ → TypeTree → List Node) (inside : Holds names nodes) where
    pub record PartsHold (parts : Parts) : Type 0 where
      pub nodes_hold : Nodes parts.nodes
      pub names_hold : Named (map name_of_part parts.parts)

    parts_hold : (cs : List CompTree) (n : ℕ) → Named (names_in_parts names cs) → PartsHold (parts_of nodes cs n)
    parts_hold [] n h = record { nodes_hold = refl; names_hold = refl }
    parts_hold (c ∷ cs) n h =
        by (out-CompTree c) (named_first (names_by_part names (out-CompTree c)) (names_in_parts names cs) h)
        (λ m. parts_hold cs m (named_second (names_by_part names (out-CompTree c)) (names_in_parts names cs) h))
      where
        by : (x : CompTree-F BaseTree CompTree OfTree TypeTree) → Named (names_by_part names x) → ((m : ℕ) → PartsHold (parts_of nodes cs m)) → PartsHold (parts_by nodes n x (parts_of nodes cs))
        by (Part name kind presence) g rest =
            let r = rest (n + length (nodes n kind)) in
            record { nodes_hold = nodes_both (nodes n kind) _ (inside n kind (both_second _ _ g)) r.nodes_hold; names_hold = both_true _ _ (both_first _ _ g) r.names_hold }
        by (Extension place) g rest = let r = rest n in record { nodes_hold = r.nodes_hold; names_hold = r.names_hold }

    base_holds : (n : ℕ) (b : BaseTree-F BaseTree CompTree OfTree TypeTree) → Named (names_by names b) → Nodes (nodes_by nodes n b)
    base_holds n (Enumerated items) h = both_true _ _ h refl
    base_holds n (Choice comps) h = let r = parts_hold comps n h in nodes_both (parts_of nodes comps n).nodes _ r.nodes_hold (both_true _ _ r.names_hold refl)
    base_holds n (Sequence comps) h = let r = parts_hold comps n h in nodes_both (parts_of nodes comps n).nodes _ r.nodes_hold (both_true _ _ r.names_hold refl)
    base_holds n (SequenceOf of) h = nodes_both (nodes n (out-OfTree of).item) _ (inside n (out-OfTree of).item h) refl
    base_holds n (SetOf of) h = nodes_both (nodes n (out-OfTree of).item) _ (inside n (out-OfTree of).item h) refl
    base_holds n (Integer numbers limits) h = refl
    base_holds n Boolean h = refl
    base_holds n (Reference name limits) h = refl
    base_holds n (Set run) h = refl
    base_holds n (Real limits) h = refl
    base_holds n Null h = refl
    base_holds n (OctetString limits) h = refl
    base_holds n ObjectIdentifier h = refl
    base_holds n (BitString numbers limits) h = refl

  within_hold : (depth : ℕ) → Holds (names_within depth) (nodes_within depth)
  within_hold zero n t h = refl
  within_hold (suc depth) n t h = base_holds (names_within depth) (nodes_within depth) (within_hold depth) n (out-BaseTree t.base) h

  type_holds : Holds names_in nodes_of
  type_holds n t h = within_hold (size-TypeTree t) n t h

  assignment_holds : (flat : Flat) (a : AssignmentTree) → Nodes flat.nodes → Named (names_declared_by a) → Nodes (with_assignment flat a).nodes
  assignment_holds flat (assignment.Type name kind) g h = nodes_both flat.nodes (nodes_of (length flat.nodes) kind) g (type_holds (length flat.nodes) kind (both_second _ _ h))
  assignment_holds flat (assignment.Value name kind v) g h = nodes_both flat.nodes (nodes_of (length flat.nodes) kind) g (type_holds (length flat.nodes) kind (both_second _ _ h))

  assignments_hold : (flat : Flat) (all : List AssignmentTree) → Nodes flat.nodes → Named (flat_map names_declared_by all) → Nodes (with_assignments flat all).nodes
  assignments_hold flat [] g h = g
  assignments_hold flat (a ∷ rest) g h =
      assignments_hold (with_assignment flat a) rest (assignment_holds flat a g (named_first (names_declared_by a) (flat_map names_declared_by rest) h))
      (named_second (names_declared_by a) (flat_map names_declared_by rest) h)

  modules_hold : (flat : Flat) (ms : List ModuleTree) → Nodes flat.nodes → Named (declared_names ms) → Nodes (with_modules flat ms).nodes
  modules_hold flat [] g h = g
  modules_hold flat (m ∷ ms) g h =
      modules_hold (with_assignments flat m.assignments) ms
      (assignments_hold flat m.assignments g (named_first (flat_map names_declared_by m.assignments) (declared_names ms) h))
      (named_second (flat_map names_declared_by m.assignments) (declared_names ms) h)

  node_at : (nodes : List Node) (p : ℕ) → Nodes nodes → Named (names_at (slice_get nodes p))
  node_at [] p h = refl
  node_at (x ∷ xs) zero h = both_first _ _ h
  node_at (x ∷ xs) (suc p) h = node_at xs p (both_second _ _ h)

  pub nodes_named : (modules : List ModuleTree) (p : ℕ) → Named (declared_names modules) → Named (names_at (slice_get (flat_of modules).nodes p))
  nodes_named modules p h = node_at (flat_of modules).nodes p (modules_hold no_flat modules refl h)

-- ---- tables

known_stays : (table : List (List ℕ)) (name more : List ℕ) → is_some (place_of table name) ≡ true → is_some (place_of (with_name table more) name) ≡ true
known_stays table name more h = by (place_of table name) refl h
  where
    by : (o : Option ℕ) → place_of table name ≡ o → is_some o ≡ true → is_some (place_of (with_name table more) name) ≡ true
    by None e g = absurd (true≢false (sym g))
    by (Some n) e g = ap is_some (earlier_stays table name more n e)

known_after : (table : List (List ℕ)) (ns : List Name) (name : List ℕ) → is_some (place_of table name) ≡ true → is_some (place_of (with_names table ns) name) ≡ true
known_after table [] name h = h
known_after table (n ∷ ns) name h = known_after (with_name table (key n)) ns name (known_stays table name (key n) h)

known_now : (table : List (List ℕ)) (name : List ℕ) → is_some (place_of (with_name table name) name) ≡ true
known_now table name =
    elim (placed table name) [
      | inl known ↦ ap (λ t. is_some (place_of t name)) (with_known table name known.0 known.1) ∙ ap is_some known.1
      | inr none ↦ ap (λ t. is_some (place_of t name)) (with_new table name none) ∙ ap is_some (place_at_end table name none)
    ]

pub all_known : (table : List (List ℕ)) (ns : List Name) → list_all (is_in (with_names table ns)) ns ≡ true
all_known table [] = refl
all_known table (n ∷ ns) = both_true _ _ (known_after (with_name table (key n)) ns (key n) (known_now table (key n))) (all_known (with_name table (key n)) ns)
