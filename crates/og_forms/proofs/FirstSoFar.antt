-- The first of the violations so far, with those of further forms.
use Rattle.std.proofs.Common.{◌≡◌, ℕ, ◌+◌, ◌≤◌, ◌<◌, List, [], ◌∷◌, ◌++◌, length, get_or, Option, refl, sym, ap, ◌∙◌}
use Rattle.std.specs.List.{flat_map}
use Rattle.og_base.specs.declared.Violation.{Violation}
use Rattle.og_base.specs.Order.{sooner, first_from}
use Rattle.og_names.proofs.Loops.{Left, left_first, left_more, left_all}
use Rattle.og_forms.specs.Forms.{FormAt, Forms, violation_at, unbuilt, noted}

-- the first violation of two lists
first_from_both : (best : Option Violation) (vs ws : List Violation) → first_from best (vs ++ ws) ≡ first_from (first_from best vs) ws
first_from_both best [] ws = refl
first_from_both best (v ∷ vs) ws = first_from_both (sooner best v) vs ws

-- the forms of two texts, one behind the other
pub noted_both : (best : Option Violation) (fs gs : Forms) → noted best (fs ++ gs) ≡ noted (noted best fs) gs
noted_both best [] gs = refl
noted_both best (f ∷ fs) gs =
    first_from_both best (violation_at f) (unbuilt (fs ++ gs))
    ∙ noted_both (first_from best (violation_at f)) fs gs
    ∙ ap (λ b. noted b gs) (sym (first_from_both best (violation_at f) (unbuilt fs)))

-- a form in front of others
pub noted_one : (best : Option Violation) (f : FormAt) (fs : Forms) → noted best (f ∷ fs) ≡ noted (noted best (f ∷ [])) fs
noted_one best f fs = noted_both best (f ∷ []) fs

-- after the items before the i-th, the first violation so far
pub record Noted {X : Type 0} (forms : X → Forms) (xs : List X) (i : ℕ) (now first : Option Violation) : Type 0 where
  pub left : Left (λ ys. noted now (flat_map forms ys)) xs i (noted first (flat_map forms xs))

pub noted_first : {X : Type 0} (forms : X → Forms) (xs : List X) (first : Option Violation) → Noted forms xs 0 first first
noted_first forms xs first = record { left = left_first (λ ys. noted first (flat_map forms ys)) xs }

pub noted_more : {X : Type 0} (forms : X → Forms) (xs : List X) (i : ℕ) (x : X) (now next first : Option Violation)
    → i < length xs → x ≡ get_or xs i x → next ≡ noted now (forms x) → Noted forms xs i now first → Noted forms xs (i + 1) next first
noted_more forms xs i x now next first lt at is so_far =
    record {
      left = left_more (λ ys. noted now (flat_map forms ys)) (λ ys. noted next (flat_map forms ys)) xs i x (noted first (flat_map forms xs)) lt at
          (λ ys. noted_both now (forms x) (flat_map forms ys) ∙ ap (λ v. noted v (flat_map forms ys)) (sym is)) so_far.left;
    }

pub noted_all : {X : Type 0} (forms : X → Forms) (xs : List X) (i : ℕ) (now first : Option Violation)
    → length xs ≤ i → Noted forms xs i now first → now ≡ noted first (flat_map forms xs)
noted_all forms xs i now first le so_far = left_all (λ ys. noted now (flat_map forms ys)) xs i (noted first (flat_map forms xs)) le so_far.left

pub ruleset notes = (noted_both, noted_one, noted_first, noted_more, noted_all)
