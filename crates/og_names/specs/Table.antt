-- What every table of names keeps: each of its names is short, is folded already, and stands at one place.
use Rattle.std.specs.Prelude.{◌≡◌, ℕ, ◌^◌, ◌<◌, ◌≤◌, List, Some, length, slice_get}
use Rattle.og_names.specs.Folding.{folded, place_of}

-- a table of names
pub record IsTable (names : List (List ℕ)) : Type 0 where
  -- a name has at most 64 bytes
  pub short : (n : ℕ) (name : List ℕ) → slice_get names n ≡ Some name → length name ≤ 64
  -- and is in its folded form
  pub folds : (n : ℕ) (name : List ℕ) → slice_get names n ≡ Some name → folded name ≡ name
  -- and has one number
  pub own : (n : ℕ) (name : List ℕ) → slice_get names n ≡ Some name → place_of names name ≡ Some n
  -- each number has 32 bits
  pub few : length names < 2 ^ 32
