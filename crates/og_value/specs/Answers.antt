-- How calls answer that find a value in a text, or none, or no memory. The form of the answers is this project's own.
use Rattle.std.specs.Prelude.{◌≡◌, ⊤, ℕ, List, ◌++◌, Option, Some, None, Result, Ok, Err}
use Rattle.og_value.specs.declared.ValueError.{ValueError}
use Rattle.og_value.specs.declared.ValueError.TheVariants.{Bad, NoMemory}
use Rattle.og_value.specs.Scans.{Found, and_then}

-- what a call returned, seen by view, is what is found, unless memory could not be had
abbrev pub Gives : {X Y : Type 0} → (X → Y) → Result X ValueError → Option Y → Type 0
Gives view (Ok x) found = found ≡ Some (view x)
Gives view (Err Bad) found = found ≡ None
Gives view (Err (NoMemory met)) found = ⊤

-- memory could not be had
abbrev pub IsOutOfMemory : ValueError → Type 0
IsOutOfMemory Bad = ⊥
IsOutOfMemory (NoMemory met) = ⊤

-- what was read before, and what is still read
abbrev pub with_front : {X : Type 0} → List X → Found (List X) → Found (List X)
with_front front found = and_then found (λ xs rest. Some (front ++ xs, rest))

-- the bytes begin with the old ones
pub record Keeps (old new : List ℕ) : Type 0 where
  pub more : List ℕ
  pub is : new ≡ old ++ more
