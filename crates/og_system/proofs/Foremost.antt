-- The first of what stands in parts, one behind the other.
use Rattle.std.proofs.Common.{◌≡◌, ℕ, ◌+◌, ◌≤◌, ◌<◌, Bool, true, false, cond, ◌||◌, List, [], ◌∷◌, ◌++◌, length, get_or, Some, None, refl, sym, ap, ◌∙◌}
use Rattle.std.specs.List.{flat_map, filter, list_any}
use Rattle.std.proofs.lemmas.List.Folds.{list_any-append}
use Rattle.og_names.proofs.Loops.{Left, left_first, left_more, left_stop, left_all}
use Rattle.og_ast.specs.declared.ground.Name.{Name}
use Rattle.og_system.specs.Scopes.{is_among, folds_as}
use Rattle.og_system.specs.Bodies.{foremost}

found_first : {X : Type 0} (xs ys : List X) (x : X) → Some x ≡ foremost xs → foremost (xs ++ ys) ≡ Some x
found_first [] ys x e = cc
found_first (z ∷ xs) ys x e = sym e

none_first : {X : Type 0} (xs ys : List X) → None ≡ foremost xs → foremost (xs ++ ys) ≡ foremost ys
none_first [] ys e = refl
none_first (z ∷ xs) ys e = cc

filtered_both : {X : Type 0} (p : X → Bool) (xs ys : List X) → filter p (xs ++ ys) ≡ filter p xs ++ filter p ys
filtered_both p [] ys = refl
filtered_both p (x ∷ xs) ys = by (p x) (filtered_both p xs ys)
  where
    by : (b : Bool) → filter p (xs ++ ys) ≡ filter p xs ++ filter p ys → cond b (x ∷ filter p (xs ++ ys)) (filter p (xs ++ ys)) ≡ cond b (x ∷ filter p xs) (filter p xs) ++ filter p ys
    by true e = ap (λ zs. x ∷ zs) e
    by false e = e

-- before the i-th there is none
pub record Searching {X A : Type 0} (f : X → List A) (xs : List X) (i : ℕ) : Type 0 where
  pub left : Left (λ ys. foremost (flat_map f ys)) xs i (foremost (flat_map f xs))

pub searching_first : {X A : Type 0} (f : X → List A) (xs : List X) → Searching f xs 0
searching_first f xs = record { left = left_first (λ ys. foremost (flat_map f ys)) xs }

pub searching_more : {X A : Type 0} (f : X → List A) (xs : List X) (i : ℕ) (x : X) → i < length xs → x ≡ get_or xs i x → None ≡ foremost (f x) → Searching f xs i → Searching f xs (i + 1)
searching_more f xs i x lt at none searching = record {
  left = left_more (λ ys. foremost (flat_map f ys)) (λ ys. foremost (flat_map f ys)) xs i x _ lt at (λ ys. none_first (f x) (flat_map f ys) none) searching.left;
}

pub searching_stop : {X A : Type 0} (f : X → List A) (xs : List X) (i : ℕ) (x : X) (a : A) → i < length xs → x ≡ get_or xs i x → Some a ≡ foremost (f x) → Searching f xs i → Some a ≡ foremost (flat_map f xs)
searching_stop f xs i x a lt at some searching =
    left_stop (λ ys. foremost (flat_map f ys)) xs i x (Some a) _ lt at (λ ys. found_first (f x) (flat_map f ys) a some) searching.left

pub searching_all : {X A : Type 0} (f : X → List A) (xs : List X) (i : ℕ) → length xs ≤ i → Searching f xs i → None ≡ foremost (flat_map f xs)
searching_all f xs i le searching = left_all (λ ys. foremost (flat_map f ys)) xs i _ le searching.left

-- the filter of all is that of each
pub filtered_each : {X A : Type 0} (p : A → Bool) (f : X → List A) (xs : List X) → flat_map (λ x. filter p (f x)) xs ≡ filter p (flat_map f xs)
filtered_each p f [] = refl
filtered_each p f (x ∷ xs) = ap (λ zs. filter p (f x) ++ zs) (filtered_each p f xs) ∙ sym (filtered_both p (f x) (flat_map f xs))

-- a name is among all where it is among those of one
pub among_each : {X : Type 0} (f : X → List Name) (xs : List X) (name : Name) → list_any (λ x. is_among (f x) name) xs ≡ is_among (flat_map f xs) name
among_each f [] name = refl
among_each f (x ∷ xs) name = ap (λ b. is_among (f x) name || b) (among_each f xs name) ∙ sym (list_any-append (folds_as name) (f x) (flat_map f xs))

pub ruleset foremosts = (searching_first, searching_more, searching_stop, searching_all, filtered_each, among_each)
