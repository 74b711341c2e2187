-- A table of names with more names behind those that it had.
use Rattle.std.specs.Prelude.{◌≡◌, ℕ, List, ◌++◌}

pub record IsFront (old new : List (List ℕ)) : Type 0 where
  pub more : List (List ℕ)
  pub is : new ≡ old ++ more
