-- Tests put together.
use Rattle.std.proofs.Common.{◌≡◌, ℕ, zero, suc, List, [], ◌∷◌, ◌++◌, Bool, true, false, Some, slice_get, refl}
use Rattle.std.specs.List.{list_all}
use Rattle.og_names.proofs.Truths.{both_first as left_of, both_second as right_of, both_true as both}

pub false_by : (b : Bool) → (b ≡ true → ⊥) → b ≡ false
false_by true h = absurd (h refl)
false_by false h = refl

-- what holds of each item holds of all
pub all_by : {A : Type 0} (q : A → Bool) (xs : List A) → ((j : ℕ) (x : A) → slice_get xs j ≡ Some x → q x ≡ true) → list_all q xs ≡ true
all_by q [] h = refl
all_by q (x ∷ xs) h = both (q x) (list_all q xs) (h 0 x refl) (all_by q xs (λ j y e. h (suc j) y e))

pub all_append : {A : Type 0} (q : A → Bool) (xs ys : List A) → list_all q xs ≡ true → list_all q ys ≡ true → list_all q (xs ++ ys) ≡ true
all_append q [] ys h k = k
all_append q (x ∷ xs) ys h k = both (q x) _ (left_of (q x) _ h) (all_append q xs ys (right_of (q x) _ h) k)
