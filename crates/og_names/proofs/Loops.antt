-- Loops over lists that a recursion takes apart.
use Rattle.std.proofs.Common.{◌≡◌, ℕ, ◌+◌, ◌≤◌, ◌<◌, List, [], ◌∷◌, length, drop, get_or, refl, sym, ◌∙◌}
use Rattle.std.proofs.lemmas.List.{at_drop_more, at_drop_all}

-- what the items from the i-th on still give, in all
pub record Left {X A : Type 0} (rest : List X → A) (xs : List X) (i : ℕ) (total : A) : Type 0 where
  pub is : rest (drop i xs) ≡ total

pub left_first : {X A : Type 0} (rest : List X → A) (xs : List X) → Left rest xs 0 (rest xs)
left_first rest xs = record { is = refl }

pub left_more : {X A : Type 0} (here next : List X → A) (xs : List X) (i : ℕ) (x : X) (total : A)
    → i < length xs → x ≡ get_or xs i x → ((ys : List X) → here (x ∷ ys) ≡ next ys) → Left here xs i total → Left next xs (i + 1) total
left_more here next xs i x total lt at step left =
    record { is = sym (step (drop (i + 1) xs)) ∙ (λ j. here (at j ∷ drop (i + 1) xs)) ∙ sym (at_drop_more here xs i x lt) ∙ left.is }

-- the answer is known before the last item
pub left_stop : {X A : Type 0} (here : List X → A) (xs : List X) (i : ℕ) (x : X) (answer total : A)
    → i < length xs → x ≡ get_or xs i x → ((ys : List X) → here (x ∷ ys) ≡ answer) → Left here xs i total → answer ≡ total
left_stop here xs i x answer total lt at step left =
    sym (step (drop (i + 1) xs)) ∙ (λ j. here (at j ∷ drop (i + 1) xs)) ∙ sym (at_drop_more here xs i x lt) ∙ left.is

pub left_all : {X A : Type 0} (rest : List X → A) (xs : List X) (i : ℕ) (total : A) → length xs ≤ i → Left rest xs i total → rest [] ≡ total
left_all rest xs i total le left = sym (at_drop_all rest xs i le) ∙ left.is

pub ruleset loops = (left_first, left_more, left_stop, left_all)
