-- A list of violations is empty, or has a first one, which is one of them.
use Rattle.std.proofs.Common.{◌≡◌, ℕ, zero, suc, ◌<◌, Bool, true, false, if◌then◌else◌, List, [], ◌∷◌, length, get_or, Some, None, Contains, refl, ap, ◌∙◌, ◌⊎◌, inl, inr, arith}
use Rattle.og_base.specs.declared.Violation.{Violation}
use Rattle.og_base.specs.Order.{comes_before, first_from, first_of}

later_there : (x v : Violation) (xs : List Violation) → Contains xs v → Contains (x ∷ xs) v
later_there x v xs there = (suc there.0, omega (arith, there.1), there.2)

swap : (x y v : Violation) (xs : List Violation) → Contains (x ∷ xs) v → Contains (x ∷ y ∷ xs) v
swap x y v xs there = by there.0 there.1 there.2
  where
    by : (k : ℕ) → k < length (x ∷ xs) → get_or (x ∷ xs) k v ≡ v → Contains (x ∷ y ∷ xs) v
    by zero lt at = (0, omega arith, at)
    by (suc k) lt at = (suc (suc k), omega arith, at)

abbrev First : Violation → List Violation → Type 0
First best vs = (v : Violation) × (first_from (Some best) vs ≡ Some v) × Contains (best ∷ vs) v

-- the sooner of two, and then the others
first_more : (best w : Violation) (vs : List Violation) (b : Bool) → comes_before w best ≡ b → First w vs → First best vs → First best (w ∷ vs)
first_more best w vs true e x y = (x.0, ap (λ c. first_from (if c then Some w else Some best) vs) e ∙ x.1, later_there best x.0 (w ∷ vs) x.2)
first_more best w vs false e x y = (y.0, ap (λ c. first_from (if c then Some w else Some best) vs) e ∙ y.1, swap best w y.0 vs y.2)

some_first : (best : Violation) (vs : List Violation) → First best vs
some_first best [] = (best, refl, (0, omega arith, refl))
some_first best (w ∷ vs) = first_more best w vs (comes_before w best) refl (some_first w vs) (some_first best vs)

pub one_answer : (vs : List Violation) → ((vs ≡ []) × (first_of vs ≡ None)) ⊎ ((v : Violation) × (first_of vs ≡ Some v) × Contains vs v)
one_answer [] = inl (refl, refl)
one_answer (best ∷ vs) = inr (some_first best vs)
