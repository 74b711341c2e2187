-- Loops over two lists side by side.
use Rattle.std.proofs.Common.{◌≡◌, ℕ, ◌+◌, ◌≤◌, ◌<◌, List, [], ◌∷◌, length, drop, get_or, refl, sym, ◌∙◌, arith}
use Rattle.std.proofs.lemmas.List.{at_drop_more, at_drop_all}

-- what the items of both lists from the i-th on still give, in all
pub record Both {X Y A : Type 0} (rest : List X → List Y → A) (xs : List X) (ys : List Y) (i : ℕ) (total : A) : Type 0 where
  pub is : rest (drop i xs) (drop i ys) ≡ total

pub both_first : {X Y A : Type 0} (rest : List X → List Y → A) (xs : List X) (ys : List Y) → Both rest xs ys 0 (rest xs ys)
both_first rest xs ys = record { is = refl }

pub both_stop : {X Y A : Type 0} (here : List X → List Y → A) (xs : List X) (ys : List Y) (i : ℕ) (x : X) (y : Y) (answer total : A)
    → i < length xs → length xs ≡ length ys → x ≡ get_or xs i x → y ≡ get_or ys i y → ((us : List X) (vs : List Y) → here (x ∷ us) (y ∷ vs) ≡ answer)
    → Both here xs ys i total → answer ≡ total
both_stop here xs ys i x y answer total lt same atx aty step both =
    sym (step (drop (i + 1) xs) (drop (i + 1) ys))
    ∙ (λ j. here (atx j ∷ drop (i + 1) xs) (y ∷ drop (i + 1) ys)) ∙ sym (at_drop_more (λ us. here us (y ∷ drop (i + 1) ys)) xs i x lt)
    ∙ (λ j. here (drop i xs) (aty j ∷ drop (i + 1) ys)) ∙ sym (at_drop_more (λ vs. here (drop i xs) vs) ys i y (omega (arith, lt, same)))
    ∙ both.is

pub both_more : {X Y A : Type 0} (here next : List X → List Y → A) (xs : List X) (ys : List Y) (i : ℕ) (x : X) (y : Y) (total : A)
    → i < length xs → length xs ≡ length ys → x ≡ get_or xs i x → y ≡ get_or ys i y → ((us : List X) (vs : List Y) → here (x ∷ us) (y ∷ vs) ≡ next us vs)
    → Both here xs ys i total → Both next xs ys (i + 1) total
both_more here next xs ys i x y total lt same atx aty step both =
    record {
      is = sym (step (drop (i + 1) xs) (drop (i + 1) ys))
          ∙ (λ j. here (atx j ∷ drop (i + 1) xs) (y ∷ drop (i + 1) ys)) ∙ sym (at_drop_more (λ us. here us (y ∷ drop (i + 1) ys)) xs i x lt)
          ∙ (λ j. here (drop i xs) (aty j ∷ drop (i + 1) ys)) ∙ sym (at_drop_more (λ vs. here (drop i xs) vs) ys i y (omega (arith, lt, same)))
          ∙ both.is;
    }

pub both_all : {X Y A : Type 0} (rest : List X → List Y → A) (xs : List X) (ys : List Y) (i : ℕ) (total : A) → length xs ≤ i → length xs ≡ length ys → Both rest xs ys i total → rest [] [] ≡ total
both_all rest xs ys i total le same both =
    sym (at_drop_all (λ us. rest us []) xs i le) ∙ sym (at_drop_all (λ vs. rest (drop i xs) vs) ys i (omega (arith, le, same))) ∙ both.is

pub ruleset pairs = (both_first, both_stop, both_more, both_all)
