-- Loops that keep in mind the first of the violations so far.
use Rattle.std.proofs.Common.{◌≡◌, ℕ, ◌+◌, ◌≤◌, ◌<◌, List, [], ◌∷◌, ◌++◌, length, get_or, Option, refl, sym, ap, ◌∙◌}
use Rattle.std.specs.List.{flat_map}
use Rattle.og_base.specs.declared.Violation.{Violation}
use Rattle.og_names.proofs.Loops.{Left, left_first, left_more, left_all}
use Rattle.og_base.specs.Order.{sooner, first_from}

-- the first violation of two lists
pub first_from_both : (best : Option Violation) (vs ws : List Violation) → first_from best (vs ++ ws) ≡ first_from (first_from best vs) ws
first_from_both best [] ws = refl
first_from_both best (v ∷ vs) ws = first_from_both (sooner best v) vs ws

-- after the items before the i-th, the first violation so far
pub record Noted {X : Type 0} (f : X → List Violation) (xs : List X) (i : ℕ) (now first : Option Violation) : Type 0 where
  pub left : Left (λ ys. first_from now (flat_map f ys)) xs i (first_from first (flat_map f xs))

pub noted_first : {X : Type 0} (f : X → List Violation) (xs : List X) (first : Option Violation) → Noted f xs 0 first first
noted_first f xs first = record { left = left_first (λ ys. first_from first (flat_map f ys)) xs }

pub noted_more : {X : Type 0} (f : X → List Violation) (xs : List X) (i : ℕ) (x : X) (now next first : Option Violation)
    → i < length xs → x ≡ get_or xs i x → next ≡ first_from now (f x) → Noted f xs i now first → Noted f xs (i + 1) next first
noted_more f xs i x now next first lt at is noted =
    record {
      left = left_more (λ ys. first_from now (flat_map f ys)) (λ ys. first_from next (flat_map f ys)) xs i x (first_from first (flat_map f xs)) lt at
          (λ ys. first_from_both now (f x) (flat_map f ys) ∙ ap (λ v. first_from v (flat_map f ys)) (sym is)) noted.left;
    }

pub noted_all : {X : Type 0} (f : X → List Violation) (xs : List X) (i : ℕ) (now first : Option Violation)
    → length xs ≤ i → Noted f xs i now first → now ≡ first_from first (flat_map f xs)
noted_all f xs i now first le noted = left_all (λ ys. first_from now (flat_map f ys)) xs i (first_from first (flat_map f xs)) le noted.left

pub ruleset notes = (first_from_both, noted_first, noted_more, noted_all)
