-- Labels of different places differ.
use Rattle.std.proofs.Common.{◌≡◌, ℕ, ◌^◌, ◌<◌, List, [], ◌∷◌, ◌++◌, Bool, true, false, cond, ◌==◌, slice_get, refl, sym, ap, ◌∙◌, arith, append_assoc, append-nil}
use Rattle.std.specs.Prelude.{codes, decimal}
use Rattle.std.specs.List.{list_all}
use Rattle.std.proofs.lemmas.Bool.Decides.{nat_tests}
use Rattle.std.proofs.lemmas.Fmt.{decimal_injective}
use Rattle.og_names.specs.declared.Word.{Word}
use Rattle.og_csubset.specs.Tokens.{is_digit}
use Rattle.og_csubset.proofs.Digits.{decimal_digits}
use Rattle.og_cemit.specs.Emitted.{hint, label_text}
use Rattle.og_names.proofs.Truths.{both_first as left_of, both_second as right_of}

-- what stands behind the last `_`
abbrev after_last : List ℕ → List ℕ → List ℕ
after_last so_far [] = so_far
after_last so_far (x ∷ xs) = after_last (cond (x == 95) [] (so_far ++ x ∷ [])) xs

after_last-append : (so_far xs ys : List ℕ) → after_last so_far (xs ++ ys) ≡ after_last (after_last so_far xs) ys
after_last-append so_far [] ys = refl
after_last-append so_far (x ∷ xs) ys = after_last-append (cond (x == 95) [] (so_far ++ x ∷ [])) xs ys

digit_is_other : (x : ℕ) → is_digit x ≡ true → (x == 95) ≡ false
digit_is_other x h = grind (arith, nat_tests)

after_last-digits : (so_far xs : List ℕ) → list_all is_digit xs ≡ true → after_last so_far xs ≡ so_far ++ xs
after_last-digits so_far [] h = sym (append-nil so_far)
after_last-digits so_far (x ∷ xs) h =
    ap (λ b. after_last (cond b [] (so_far ++ x ∷ [])) xs) (digit_is_other x (left_of (is_digit x) (list_all is_digit xs) h))
    ∙ after_last-digits (so_far ++ x ∷ []) xs (right_of (is_digit x) (list_all is_digit xs) h)
    ∙ append_assoc so_far (x ∷ []) xs

after_label : (labels : List Word) (place : ℕ) → place < 2 ^ 64 → after_last [] (label_text labels place) ≡ decimal place
unfolding label_text
after_label labels place less =
    after_last-append [] (hint (slice_get labels place)) (codes "__" ++ decimal place)
    ∙ after_last-digits [] (decimal place) (decimal_digits place)

pub labels_differ : (labels : List Word) (p q : ℕ) → p < 2 ^ 64 → q < 2 ^ 64 → label_text labels p ≡ label_text labels q → p ≡ q
labels_differ labels p q less less' e =
    decimal_injective p q less less' (sym (after_label labels p less) ∙ ap (after_last []) e ∙ after_label labels q less')
