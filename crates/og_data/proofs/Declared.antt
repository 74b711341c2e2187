-- The constants of a view, one behind the other.
use Rattle.std.proofs.Common.{◌≡◌, ℕ, suc, ◌+◌, ◌<◌, ◌≤◌, List, [], ◌∷◌, ◌++◌, length, take, get_or, map, refl, sym, ap, ◌∙◌, arith, length-take}
use Rattle.std.specs.List.{enumerate_from}
use Rattle.std.proofs.lemmas.List.{take_more, map-append}

numbered_end : {X : Type 0} (k n : ℕ) (xs : List X) (x : X) → n ≡ k + length xs → enumerate_from k (xs ++ x ∷ []) ≡ enumerate_from k xs ++ (n, x) ∷ []
numbered_end k n [] x e = let m : k ≡ n = omega (arith, e) in ap (λ j. (j, x) ∷ []) m
numbered_end k n (y ∷ ys) x e = let m : n ≡ k + 1 + length ys = omega (arith, e) in ap (λ zs. (k, y) ∷ zs) (numbered_end (k + 1) n ys x m)

pub constants_more : {X Y : Type 0} (f : ℕ × X → Y) (xs : List X) (i : ℕ) (c : X) (old new : List Y) (y : Y) → i < length xs → c ≡ get_or xs i c → new ≡ old ++ y ∷ [] → y ≡ f (i, c)
    → old ≡ map f (enumerate_from 0 (take i xs)) → new ≡ map f (enumerate_from 0 (take (i + 1) xs))
constants_more f xs i c old new y lt at more is before =
    let m : i ≡ 0 + length (take i xs) = omega (arith, lt, length-take i xs) in
    more ∙ (λ j. before j ++ is j ∷ []) ∙ sym (map-append f (enumerate_from 0 (take i xs)) ((i, c) ∷ []))
    ∙ ap (map f) (sym (numbered_end 0 i (take i xs) c m)) ∙ ap (λ x. map f (enumerate_from 0 (take i xs ++ x ∷ []))) at
    ∙ ap (λ ys. map f (enumerate_from 0 ys)) (sym (take_more xs i c lt))
