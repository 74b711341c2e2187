-- Which places of flat code were passed, and how many statements stand there, at a pace. The place behind the last instruction
-- of a function is its end, and counts as well.
use Rattle.std.specs.Prelude.{ℕ, zero, suc, ◌+◌, Bool, true, false, ◌&&◌, ◌||◌, nat_eq, List, [], ◌∷◌, length}
use Rattle.og_ir.specs.declared.Ir.{Ir}
use Rattle.og_ir.specs.declared.FlatFn.{FlatFn}
use Rattle.og_csubset.specs.Paced.{Pace}

-- for each place of each function, whether it was passed
abbrev pub Passed : Type 0
Passed = ℕ → ℕ → Bool

abbrev pub none_passed : Passed
none_passed f p = false

-- one place more
abbrev pub with_place : Passed → ℕ → ℕ → Passed
with_place seen f p g q = (nat_eq g f && nat_eq q p) || seen g q

abbrev pub counted : Bool → ℕ → ℕ
counted true n = n
counted false n = 0

abbrev pub passed_below : (ℕ → ℕ) → (ℕ → Bool) → ℕ → ℕ
passed_below pace seen zero = 0
passed_below pace seen (suc n) = passed_below pace seen n + counted (seen n) (pace n)

abbrev pub passed_from : Pace → Passed → ℕ → List FlatFn → ℕ
passed_from pace seen k [] = 0
passed_from pace seen k (f ∷ functions) = passed_below (pace k) (seen k) (length f.code + 1) + passed_from pace seen (k + 1) functions

-- the statements at the places that were passed
abbrev pub passed : Pace → Passed → Ir → ℕ
passed pace seen ir = passed_from pace seen 0 ir.functions
