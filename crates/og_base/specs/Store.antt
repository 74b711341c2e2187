-- The outside that is read: files by their names. A store may tell what its files hold, and then each piece that it gives is
-- a piece of the file; it counts for each name how often reading it failed.
use Rattle.std.specs.Prelude.{◌≡◌, ℕ, ◌+◌, ◌-◌, ◌^◌, ◌<◌, ◌≤◌, ◌++◌, List, Option, Some, IfSome, length, take, drop, min}

-- the bytes of each file that is there
abbrev pub Files : Type 0
Files = List ℕ → Option (List ℕ)

-- new is old with `count` bytes of the file from `at` on at its front; none into a piece that is not empty says that the file ends there
pub record IsPiece (bytes : List ℕ) (at : ℕ) (old new : List ℕ) (count : ℕ) : Type 0 where
  pub inside : count ≤ length bytes - at
  pub copied : new ≡ take count (drop at bytes) ++ drop count old
  pub last : count ≡ 0 → 0 < length old → length bytes ≤ at

-- where the store tells its files, the file is there and this is a piece of it
abbrev pub GivesPiece : Option Files → List ℕ → ℕ → List ℕ → List ℕ → ℕ → Type 0
GivesPiece told name at old new count = IfSome told (λ files. (bytes : List ℕ) × (files name ≡ Some bytes) × IsPiece bytes at old new count)

-- a count rose, or stands at its end
abbrev pub Rose : ℕ → ℕ → Type 0
Rose old new = min (old + 1) (2 ^ 64 - 1) ≤ new

-- where the store tells its files, it holds these bytes under the name
abbrev pub Holds : Option Files → List ℕ → List ℕ → Type 0
Holds told name bytes = IfSome told (λ files. files name ≡ Some bytes)

-- where the store tells its files, it holds more than `limit` bytes under the name
abbrev pub HoldsMore : Option Files → List ℕ → ℕ → Type 0
HoldsMore told name limit = IfSome told (λ files. (bytes : List ℕ) × (files name ≡ Some bytes) × (limit < length bytes))
