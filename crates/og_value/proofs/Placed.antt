-- Names stand at their places.
use Rattle.std.proofs.Common.{◌≡◌, ℕ, zero, suc, Bool, true, false, cond, nat_eq, codes, get_or, List, [], ◌∷◌, map, slice_get, Option, Some, None, option_map, inl, inr, refl, sym, ap, ◌∙◌, subst, arith}
use Rattle.std.specs.List.{list_any}
use Rattle.std.proofs.lemmas.Bool.{false≢true}
use Rattle.std.proofs.lemmas.Option.{none-some}
use Rattle.og_names.specs.declared.NameId.{NameId}
use Rattle.og_names.specs.Folding.{folded, place_of}
use Rattle.og_names.specs.Table.{IsTable}
use Rattle.og_names.proofs.Truths.{both_first, both_second, neither_first, neither_second, not_true, same_value}
use Rattle.og_types.specs.declared.Part.{Part}
use Rattle.og_types.specs.Table.{all_differ, same_name}
use Rattle.og_value.specs.Bytes.{truth_of}
use Rattle.og_value.specs.Forms.{IsName}
use Rattle.og_value.specs.Reads.{Names, place_among, names_of, is_called, is_numbered}
use Rattle.og_value.specs.Shows.{text_or_none, name_text}
use Rattle.og_value.specs.Named.{is_spelt, has_spelling}
use Rattle.og_value.proofs.Spelt.{truth_word}

-- ---- a name as a text spells it

first_byte : List ℕ → ℕ
first_byte bytes = get_or bytes 0 0

folded_no_truth : (w : List ℕ) (b : Bool) → folded w ≡ w → truth_of w ≡ Some b → ⊥
unfolding first_byte
folded_no_truth w b folds e = elim (truth_word w b e) [
  | inl is ↦
      let same : first_byte (folded (codes "TRUE")) ≡ first_byte (codes "TRUE") = ap first_byte (ap folded (sym is) ∙ folds ∙ is) in
      omega (arith, same)
  | inr is ↦
      let same : first_byte (folded (codes "FALSE")) ≡ first_byte (codes "FALSE") = ap first_byte (ap folded (sym is) ∙ folds ∙ is) in
      omega (arith, same)
]

no_truth : (w : List ℕ) → folded w ≡ w → truth_of w ≡ None
no_truth w folds = go (truth_of w) refl
  where
    go : (o : Option Bool) → truth_of w ≡ o → truth_of w ≡ None
    go None e = e
    go (Some b) e = absurd (folded_no_truth w b folds e)

-- the text of a name, which is the name of this number
pub record IsNameText (names : Names) (id : NameId) (text : List ℕ) : Type 0 where
  pub name : IsName text
  pub place : place_of names (folded text) ≡ Some id.0

pub name_is : (names : Names) → IsTable names → (id : NameId) → has_spelling names id ≡ true → IsNameText names id (name_text names id)
name_is names table id h = go (slice_get names id.0) refl
  where
    go : (o : Option (List ℕ)) → slice_get names id.0 ≡ o → IsNameText names id (name_text names id)
    go None e = absurd (false≢true (ap is_spelt (sym e) ∙ h))
    go (Some w) e =
        let spelt : is_spelt (Some w) ≡ true = ap is_spelt (sym e) ∙ h in
        let folds = table.folds id.0 w e in
        subst (IsNameText names id) (sym (ap text_or_none e)) (record {
          name = record { letter = both_first _ _ spelt; all = both_second _ _ spelt; no_truth = no_truth w folds };
          place = ap (place_of names) folds ∙ table.own id.0 w e;
        })

same_number : (n : ℕ) → nat_eq n n ≡ true
same_number n = grind arith

pub called : (names : Names) (id : NameId) (text : List ℕ) → IsNameText names id text → is_called names text id ≡ true
called names id text is = ap (is_numbered id) is.place ∙ same_number id.0

-- ---- its place among others

module _ {X : Type 0} (name : X → NameId) where
  differs : (x y : X) (xs : List X) (k : ℕ) → slice_get xs k ≡ Some y → list_any (λ z. same_name (name x) (name z)) xs ≡ false
      → same_name (name x) (name y) ≡ false
  differs x y [] k e h = absurd (none-some y e)
  differs x y (z ∷ xs) zero e h = ap (λ u. same_name (name x) (name u)) (sym (same_value z y e)) ∙ neither_first _ _ h
  differs x y (z ∷ xs) (suc k) e h = differs x y xs k e (neither_second _ _ h)

  pub among : (xs : List X) (k : ℕ) (x : X) → all_differ (λ u v. same_name (name u) (name v)) xs ≡ true → slice_get xs k ≡ Some x
      → place_among (map name xs) (name x).0 ≡ Some k
  among [] k x d e = absurd (none-some x e)
  among (y ∷ xs) zero x d e =
      let same : nat_eq (name y).0 (name x).0 ≡ true = ap (λ u. nat_eq (name y).0 (name u).0) (sym (same_value y x e)) ∙ same_number (name y).0 in
      ap (λ b. cond b (Some 0) (option_map suc (place_among (map name xs) (name x).0))) same
  among (y ∷ xs) (suc k) x d e =
      let other : nat_eq (name y).0 (name x).0 ≡ false = differs y x xs k e (not_true _ (both_first _ _ d)) in
      ap (λ b. cond b (Some 0) (option_map suc (place_among (map name xs) (name x).0))) other
      ∙ ap (option_map suc) (among xs k x (both_second _ _ d) e)

same_list : (ids : List NameId) → map (λ (id : NameId). id) ids ≡ ids
same_list [] = refl
same_list (id ∷ ids) = ap (λ xs. id ∷ xs) (same_list ids)

pub enumerator_among : (ids : List NameId) (k : ℕ) (id : NameId) → all_differ same_name ids ≡ true → slice_get ids k ≡ Some id → place_among ids id.0 ≡ Some k
enumerator_among ids k id d e = ap (λ xs. place_among xs id.0) (sym (same_list ids)) ∙ among (λ (x : NameId). x) ids k id d e

pub part_among : (parts : List Part) (k : ℕ) (p : Part) → all_differ (λ (x y : Part). same_name x.name y.name) parts ≡ true → slice_get parts k ≡ Some p
    → place_among (names_of parts) p.name.0 ≡ Some k
part_among parts k p d e = among (λ (x : Part). x.name) parts k p d e
