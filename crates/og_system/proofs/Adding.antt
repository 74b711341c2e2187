-- Loops that add names to a table, and names that are short.
use Rattle.std.proofs.Common.{◌≡◌, ℕ, ◌+◌, ◌≤◌, ◌<◌, List, [], ◌∷◌, ◌++◌, length, get_or, map, refl, sym, ap, ◌∙◌}
use Rattle.std.specs.List.{flat_map}
use Rattle.og_names.specs.Folding.{with_name}
use Rattle.og_names.proofs.Loops.{Left, left_first, left_more, left_all}
use Rattle.og_ast.specs.declared.ground.Name.{Name}
use Rattle.og_system.specs.Scopes.{key}
use Rattle.og_system.specs.Tables.{with_names}

pub with_both : (table : List (List ℕ)) (xs ys : List Name) → with_names table (xs ++ ys) ≡ with_names (with_names table xs) ys
with_both table [] ys = refl
with_both table (x ∷ xs) ys = with_both (with_name table (key x)) xs ys

-- after what stands before the i-th
pub record Adding {X : Type 0} (f : X → List Name) (xs : List X) (i : ℕ) (now first : List (List ℕ)) : Type 0 where
  pub left : Left (λ ys. with_names now (flat_map f ys)) xs i (with_names first (flat_map f xs))

pub adding_first : {X : Type 0} (f : X → List Name) (xs : List X) (first : List (List ℕ)) → Adding f xs 0 first first
adding_first f xs first = record { left = left_first (λ ys. with_names first (flat_map f ys)) xs }

pub adding_more : {X : Type 0} (f : X → List Name) (xs : List X) (i : ℕ) (x : X) (now next first : List (List ℕ))
    → i < length xs → x ≡ get_or xs i x → next ≡ with_names now (f x) → Adding f xs i now first → Adding f xs (i + 1) next first
adding_more f xs i x now next first lt at is adding =
    record {
      left = left_more (λ ys. with_names now (flat_map f ys)) (λ ys. with_names next (flat_map f ys)) xs i x (with_names first (flat_map f xs)) lt at
          (λ ys. with_both now (f x) (flat_map f ys) ∙ ap (λ v. with_names v (flat_map f ys)) (sym is)) adding.left;
    }

pub adding_all : {X : Type 0} (f : X → List Name) (xs : List X) (i : ℕ) (now first : List (List ℕ))
    → length xs ≤ i → Adding f xs i now first → now ≡ with_names first (flat_map f xs)
adding_all f xs i now first le adding = left_all (λ ys. with_names now (flat_map f ys)) xs i (with_names first (flat_map f xs)) le adding.left

-- the same where each has one name
pub record Naming {X : Type 0} (f : X → Name) (xs : List X) (i : ℕ) (now first : List (List ℕ)) : Type 0 where
  pub left : Left (λ ys. with_names now (map f ys)) xs i (with_names first (map f xs))

pub naming_first : {X : Type 0} (f : X → Name) (xs : List X) (first : List (List ℕ)) → Naming f xs 0 first first
naming_first f xs first = record { left = left_first (λ ys. with_names first (map f ys)) xs }

pub naming_more : {X : Type 0} (f : X → Name) (xs : List X) (i : ℕ) (x : X) (now next first : List (List ℕ))
    → i < length xs → x ≡ get_or xs i x → next ≡ with_name now (key (f x)) → Naming f xs i now first → Naming f xs (i + 1) next first
naming_more f xs i x now next first lt at is naming =
    record {
      left = left_more (λ ys. with_names now (map f ys)) (λ ys. with_names next (map f ys)) xs i x (with_names first (map f xs)) lt at
          (λ ys. ap (λ v. with_names v (map f ys)) (sym is)) naming.left;
    }

pub naming_all : {X : Type 0} (f : X → Name) (xs : List X) (i : ℕ) (now first : List (List ℕ))
    → length xs ≤ i → Naming f xs i now first → now ≡ with_names first (map f xs)
naming_all f xs i now first le naming = left_all (λ ys. with_names now (map f ys)) xs i (with_names first (map f xs)) le naming.left

pub ruleset adds = (with_both, adding_first, adding_more, adding_all, naming_first, naming_more, naming_all)
