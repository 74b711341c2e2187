-- What the place of a name in a list says, and how a set of words that are seen as their bytes keeps it.
use Rattle.std.proofs.Common.{◌≡◌, ℕ, suc, zero, ◌+◌, Bool, true, false, cond, nat_lt, position, ◌||◌, ◌⊎◌, inl, inr, List, [], ◌∷◌, ◌++◌, map, length, take, slice_get, Option, Some, None, is_some, Contains, refl, sym, ap, ◌∙◌, arith, true≢false, not, if◌then◌else◌}
use Rattle.std.specs.List.{list_any, position_or_len}
use Rattle.std.specs.Option.{option_map}
use Rattle.std.specs.Str.{bytes_eq}
use Rattle.std.specs.Cmp.Lexicographic.{bytes_decides}
use Rattle.std.proofs.lemmas.List.{map-append}
use Rattle.std.proofs.lemmas.Option.{slice_get_within, slice_get-get_or, get_or_from_slice_get}
use Rattle.indexmap.specs.IndexSet.{insert_key}
use Rattle.og_names.specs.Folding.{folded, place_of, with_name}

-- a name that is found stands first, or its place among the others is one less
abbrev Found : Bool → Option ℕ → ℕ → Type 0
Found here later n = ((here ≡ true) × (n ≡ 0)) ⊎ ((m : ℕ) × (here ≡ false) × (later ≡ Some m) × (n ≡ suc m))

found : (here : Bool) (later : Option ℕ) (n : ℕ) → cond here (Some 0) (option_map suc later) ≡ Some n → Found here later n
found true later n at = inl (refl, cc)
found false None n at = cc
found false (Some m) n at = inr (m, refl, refl, cc)

missing : (here : Bool) (later : Option ℕ) → cond here (Some 0) (option_map suc later) ≡ None → (here ≡ false) × (later ≡ None)
missing true later at = cc
missing false None at = (refl, refl)
missing false (Some m) at = cc

same_name : (a b : List ℕ) → bytes_eq a b ≡ true → a ≡ b
same_name a b h = (bytes_decides a b).0 h

own_name : (a : List ℕ) → bytes_eq a a ≡ true
own_name a = (bytes_decides a a).1 refl

-- at the place of a name stands the name
pub place_leads_back : (names : List (List ℕ)) (name : List ℕ) (n : ℕ) → place_of names name ≡ Some n → slice_get names n ≡ Some name
place_leads_back [] name n at = cc
place_leads_back (known ∷ names) name n at =
    elim (found (bytes_eq name known) (place_of names name) n at) [
      | inl here ↦ rw here.1 (ap Some (sym (same_name name known here.0)))
      | inr later ↦ rw later.3 (place_leads_back names name later.0 later.2)
    ]

-- a name that stands somewhere has a place
pub place_there : (names : List (List ℕ)) (name : List ℕ) (n : ℕ) → slice_get names n ≡ Some name → place_of names name ≡ None → ⊥
place_there [] name n at none = cc
place_there (known ∷ names) name zero at none =
    let same : known ≡ name = cc in
    let other = (missing (bytes_eq name known) (place_of names name) none).0 in
    true≢false (sym (own_name name) ∙ ap (bytes_eq name) (sym same) ∙ other)
place_there (known ∷ names) name (suc n) at none =
    place_there names name n at (missing (bytes_eq name known) (place_of names name) none).1

-- a place stays when more names follow
pub place_kept : (names more : List (List ℕ)) (name : List ℕ) (n : ℕ) → place_of names name ≡ Some n → place_of (names ++ more) name ≡ Some n
place_kept [] more name n at = cc
place_kept (known ∷ names) more name n at =
    elim (found (bytes_eq name known) (place_of names name) n at) [
      | inl here ↦ rw (here.0, here.1) refl
      | inr later ↦ rw (later.1, later.3) (ap (option_map suc) (place_kept names more name later.0 later.2))
    ]

-- a new name at the end has the number of the names before it
pub place_at_end : (names : List (List ℕ)) (name : List ℕ) → place_of names name ≡ None → place_of (names ++ name ∷ []) name ≡ Some (length names)
place_at_end [] name none = rw (own_name name) refl
place_at_end (known ∷ names) name none =
    let parts = missing (bytes_eq name known) (place_of names name) none in
    rw parts.0 (ap (option_map suc) (place_at_end names name parts.1))

-- before its place a name does not stand
pub place_before : (names : List (List ℕ)) (name : List ℕ) (n : ℕ) → place_of names name ≡ Some n → place_of (take n names) name ≡ None
place_before [] name n at = cc
place_before (known ∷ names) name n at =
    elim (found (bytes_eq name known) (place_of names name) n at) [
      | inl here ↦ rw here.1 refl
      | inr later ↦ rw (later.3, later.1) (ap (option_map suc) (place_before names name later.0 later.2))
    ]

-- a place or none
pub placed : (names : List (List ℕ)) (name : List ℕ) → ((n : ℕ) × (place_of names name ≡ Some n)) ⊎ (place_of names name ≡ None)
placed names name = by (place_of names name) refl
  where
    by : (o : Option ℕ) → place_of names name ≡ o → ((n : ℕ) × (place_of names name ≡ Some n)) ⊎ (place_of names name ≡ None)
    by (Some n) e = inl (n, e)
    by None e = inr e

-- a known name leaves the list as it is
pub with_known : (names : List (List ℕ)) (name : List ℕ) (n : ℕ) → place_of names name ≡ Some n → with_name names name ≡ names
with_known names name n at = ap (λ (o : Option ℕ). if is_some o then names else names ++ name ∷ []) at

-- a new one stands at its end
pub with_new : (names : List (List ℕ)) (name : List ℕ) → place_of names name ≡ None → with_name names name ≡ names ++ name ∷ []
with_new names name none = ap (λ (o : Option ℕ). if is_some o then names else names ++ name ∷ []) none

-- a number stays when a further name is added
pub earlier_stays : (names : List (List ℕ)) (name more : List ℕ) (n : ℕ) → place_of names name ≡ Some n → place_of (with_name names more) name ≡ Some n
earlier_stays names name more n at =
    elim (placed names more) [
      | inl known ↦ rw (with_known names more known.0 known.1) at
      | inr new ↦ rw (with_new names more new) (place_kept names (more ∷ []) name n at)
    ]

pub absent : (names : List (List ℕ)) (name : List ℕ) → (Contains names name → ⊥) → place_of names name ≡ None
absent names name never =
    elim (placed names name) [
      | inl known ↦ let at = place_leads_back names name known.0 known.1 in
          absurd (never (known.0, slice_get_within names known.0 name at, get_or_from_slice_get names known.0 name name at))
      | inr new ↦ new
    ]

pub not_there : (names : List (List ℕ)) (name : List ℕ) → place_of names name ≡ None → Contains names name → ⊥
not_there names name none there = place_there names name there.0 (slice_get-get_or names there.0 name there.1 ∙ ap Some there.2) none

-- words that are seen as their bytes
module _ {K : Type 0} (bytes : K → List ℕ) where
  -- the place is where a word first has these bytes
  pub place_by_test : (ks : List K) (name : List ℕ) → place_of (map bytes ks) name ≡ cond (list_any (λ k. bytes_eq name (bytes k)) ks) (Some (position_or_len (λ k. bytes_eq name (bytes k)) ks)) None
  place_by_test [] name = refl
  place_by_test (k ∷ ks) name = ap (λ (o : Option ℕ). cond (bytes_eq name (bytes k)) (Some 0) (option_map suc o)) (place_by_test ks name) ∙ step (bytes_eq name (bytes k)) (list_any (λ x. bytes_eq name (bytes x)) ks) (position_or_len (λ x. bytes_eq name (bytes x)) ks)
    where
      step : (here later : Bool) (n : ℕ) → cond here (Some 0) (option_map suc (cond later (Some n) None)) ≡ cond (here || later) (Some (cond (not here) (1 + n) 0)) None
      step true later n = refl
      step false true n = ap Some (omega arith)
      step false false n = refl

  -- a word that is put into a set adds its bytes
  pub bytes-insert_key : (ks : List K) (k : K) → map bytes (insert_key (λ a b. bytes_eq (bytes a) (bytes b)) ks k) ≡ with_name (map bytes ks) (bytes k)
  bytes-insert_key ks k = step (list_any (λ x. bytes_eq (bytes k) (bytes x)) ks) (position_or_len (λ x. bytes_eq (bytes k) (bytes x)) ks) ∙ ap (λ (o : Option ℕ). if is_some o then map bytes ks else map bytes ks ++ bytes k ∷ []) (sym (place_by_test ks (bytes k)))
    where
      step : (there : Bool) (n : ℕ) → map bytes (if there then ks else ks ++ k ∷ []) ≡ (if is_some (cond there (Some n) None) then map bytes ks else map bytes ks ++ bytes k ∷ [])
      step true n = refl
      step false n = map-append bytes ks (k ∷ [])

-- a test that computes an option, by what it was found to be
pub by_found : (b c : Bool) (n : ℕ) → is_some (cond b (Some n) None) ≡ c → cond b (Some n) None ≡ cond c (Some n) None
by_found true c n h = ap (λ (x : Bool). cond x (Some n) None) h
by_found false c n h = ap (λ (x : Bool). cond x (Some n) None) h

-- the place at which a set finds the folded name is the place of the name
pub found_in_set : {K : Type 0} (bytes : K → List ℕ) (ks : List K) (names : List (List ℕ)) (name word : List ℕ) (r : Option ℕ) → map bytes ks ≡ names → word ≡ folded name
    → r ≡ position (λ k. bytes_eq word (bytes k)) ks → is_some r ≡ list_any (λ k. bytes_eq word (bytes k)) ks → r ≡ place_of names (folded name)
found_in_set bytes ks names name word r seen folds is there =
    let n = position_or_len (λ k. bytes_eq word (bytes k)) ks in
    is ∙ by_found (nat_lt n (length ks)) (list_any (λ k. bytes_eq word (bytes k)) ks) n (ap is_some (sym is) ∙ there) ∙ sym (place_by_test bytes ks word)
    ∙ (λ i. place_of (seen i) (folds i))
