-- Two underlines side by side, as a reader that goes over the bytes once sees them.
use Rattle.std.proofs.Common.{◌≡◌, ℕ, ◌+◌, ◌≤◌, ◌<◌, Bool, true, false, ◌&&◌, ◌||◌, ◌==◌, List, [], ◌∷◌, length, get_or, refl, sym, ap, ◌∙◌}
use Rattle.std.proofs.lemmas.List.{get_or_default}
use Rattle.og_front.specs.Rules.{has_double_underline}
use Rattle.og_names.proofs.Loops.{Left, left_more, left_all}

-- whether two stand side by side, or one stands first where one stands before
abbrev pub after : Bool → List ℕ → Bool
after before [] = false
after before (b ∷ bs) = ((b == 95) && before) || after (b == 95) bs

both_ways : (x y : Bool) → x && y ≡ y && x
both_ways true true = refl
both_ways true false = refl
both_ways false true = refl
both_ways false false = refl

after_is : (b : ℕ) (bs : List ℕ) → after (b == 95) bs ≡ has_double_underline (b ∷ bs)
after_is b [] = refl
after_is b (c ∷ bs) = λ i. both_ways (c == 95) (b == 95) i || after_is c bs i

pub none_before : (bs : List ℕ) → after false bs ≡ has_double_underline bs
none_before [] = refl
none_before (b ∷ bs) = ap (λ (x : Bool). x || after (b == 95) bs) (both_ways (b == 95) false) ∙ after_is b bs

pub found : (before : Bool) (bytes : List ℕ) (i : ℕ) → i < length bytes → get_or bytes i 0 ≡ 95 → before ≡ true → Left (after before) bytes i (after false bytes) → true ≡ has_double_underline bytes
found before bytes i lt is there left =
    let next : Left (λ bs. true) bytes (i + 1) (after false bytes) =
    left_more (after before) (λ bs. true) bytes i 95 (after false bytes) lt (sym is ∙ get_or_default bytes i 0 95 lt) (λ bs. rw there refl) left in
    next.is ∙ none_before bytes

pub not_found : (before : Bool) (bytes : List ℕ) (i : ℕ) → length bytes ≤ i → Left (after before) bytes i (after false bytes) → false ≡ has_double_underline bytes
not_found before bytes i le left = left_all (after before) bytes i (after false bytes) le left ∙ none_before bytes
