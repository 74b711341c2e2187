-- Tests that hold of each element of a list, or of none.
use Rattle.std.proofs.Common.{◌≡◌, ℕ, suc, List, [], ◌∷◌, ◌++◌, Bool, true, false, ◌||◌, map, slice_get, Some, refl, ap, ◌∙◌}
use Rattle.std.specs.List.{list_all, list_any}
use Rattle.std.proofs.lemmas.Bool.{and_from}
use Rattle.std.proofs.lemmas.List.Folds.{list_all-append, list_all-map}
use Rattle.og_names.proofs.Truths.{both_first as left_of, both_second as right_of}

pub neither : (a b : Bool) → (a || b) ≡ false → (a ≡ false) × (b ≡ false)
neither true b h = cc
neither false b h = (refl, h)

module _ {X : Type 0} (p : X → Bool) where
  pub all_append : (xs ys : List X) → list_all p xs ≡ true → list_all p ys ≡ true → list_all p (xs ++ ys) ≡ true
  all_append xs ys h k = list_all-append p xs ys ∙ and_from _ _ h k

  pub all_always : ((x : X) → p x ≡ true) → (xs : List X) → list_all p xs ≡ true
  all_always h [] = refl
  all_always h (x ∷ xs) = and_from _ _ (h x) (all_always h xs)

  pub all_map : {Y : Type 0} (f : Y → X) (ys : List Y) → list_all (λ y. p (f y)) ys ≡ true → list_all p (map f ys) ≡ true
  all_map f ys h = list_all-map p f ys ∙ h

  -- what follows from each test follows from all of them
  pub all_by : (q : X → Bool) → ((x : X) → p x ≡ true → q x ≡ true) → (xs : List X) → list_all p xs ≡ true → list_all q xs ≡ true
  all_by q h [] all = refl
  all_by q h (x ∷ xs) all = and_from _ _ (h x (left_of _ _ all)) (all_by q h xs (right_of _ _ all))

  pub all_with : (q r : X → Bool) → ((x : X) → p x ≡ true → q x ≡ true → r x ≡ true) → (xs : List X)
      → list_all p xs ≡ true → list_all q xs ≡ true → list_all r xs ≡ true
  all_with q r h [] all every = refl
  all_with q r h (x ∷ xs) all every =
      and_from _ _ (h x (left_of _ _ all) (left_of _ _ every)) (all_with q r h xs (right_of _ _ all) (right_of _ _ every))

-- one list before another
pub any_append : {X : Type 0} (p : X → Bool) (xs ys : List X) → list_any p xs ≡ false → list_any p ys ≡ false → list_any p (xs ++ ys) ≡ false
any_append p [] ys a b = b
any_append p (x ∷ xs) ys a b =
    let both : (p x ≡ false) × (list_any p xs ≡ false) = neither _ _ a in
    ap (λ c. c || list_any p (xs ++ ys)) both.0 ∙ any_append p xs ys both.1 b

-- a test of each place
pub all_at : {X : Type 0} (p : X → Bool) (xs : List X) → ((i : ℕ) (x : X) → slice_get xs i ≡ Some x → p x ≡ true) → list_all p xs ≡ true
all_at p [] each = refl
all_at p (x ∷ xs) each = and_from _ _ (each 0 x refl) (all_at p xs (λ i y at. each (suc i) y at))

-- of two lists behind each other
pub front_all : {X : Type 0} (p : X → Bool) (xs ys : List X) → list_all p (xs ++ ys) ≡ true → list_all p xs ≡ true
front_all p [] ys all = refl
front_all p (x ∷ xs) ys all = and_from _ _ (left_of _ _ all) (front_all p xs ys (right_of _ _ all))

pub back_all : {X : Type 0} (p : X → Bool) (xs ys : List X) → list_all p (xs ++ ys) ≡ true → list_all p ys ≡ true
back_all p [] ys all = all
back_all p (x ∷ xs) ys all = back_all p xs ys (right_of _ _ all)
