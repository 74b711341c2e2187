-- What is found of the order of types before it is whole. The types are those of modules laid out flat (X.680 clauses 18 to
-- 20 and 25); which of them come first is a rule of this project's own.
use Rattle.std.specs.Prelude.{◌≡◌, ◌+◌, ◌<◌, ◌&&◌, ℕ, Bool, List, [], ◌∷◌, length, drop, slice_get, Some, unwrap_or, not, if◌then◌else◌}
use Rattle.og_flat.specs.declared.flat.Flat.{Flat}
use Rattle.og_dataview.specs.View.{is_own, is_within, up_to, place_in}
use Rattle.og_datatypes.specs.Kept.{is_marked, AreMarked}

-- one number or none
abbrev pub one_if : Bool → ℕ → List ℕ
one_if b x = if b then x ∷ [] else []

-- a type that shares the number of no other one has a mark in the second list alone
abbrev pub is_new : Flat → List Bool → List Bool → ℕ → Bool
is_new flat within next p = is_own flat p && (is_marked next p && not (is_marked within p))

-- a type that shares the number of no other one has no mark
abbrev pub is_left : Flat → List Bool → ℕ → Bool
is_left flat supported p = is_own flat p && not (is_marked supported p)

-- the types that are at most so deep, in their order, and marks for all that are
pub record Ordered (flat : Flat) (depth : ℕ) (types : List ℕ) (within : List Bool) : Type 0 where
  pub is : types ≡ up_to flat depth
  pub marked : AreMarked (is_within flat depth) within

-- the place of each type in the order, and for others the number of all
pub record AreNumbers (order : List ℕ) (count : ℕ) (numbers : List ℕ) : Type 0 where
  pub each : (p : ℕ) → unwrap_or (slice_get numbers p) count ≡ place_in order p

-- the places of types in an order, which are known from one place on
pub record Placed (order : List ℕ) (nodes at : ℕ) (numbers : List ℕ) : Type 0 where
  pub long : length numbers ≡ nodes
  pub each : (p : ℕ) → p < nodes → slice_get numbers p ≡ Some (at + place_in (drop at order) p)
