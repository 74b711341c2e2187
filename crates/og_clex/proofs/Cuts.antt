-- The bytes before the first one that fails a test, as the code takes them.
use Rattle.std.proofs.Common.{◌≡◌, ℕ, suc, ◌+◌, Bool, true, false, cond, List, [], ◌∷◌, take, drop, refl, sym, ap, ◌∙◌, arith}
use Rattle.std.specs.List.{prefix_len, list_all}
use Rattle.og_csubset.specs.Tokens.{is_digit}
use Rattle.og_csubset.specs.Lexing.{cut}
use Rattle.og_csubset.proofs.Lexed.{cut_all}

pub cut-prefix : (p : ℕ → Bool) (bs : List ℕ) → cut p bs ≡ (take (prefix_len p bs) bs, drop (prefix_len p bs) bs)
unfolding cut
cut-prefix p [] = refl
cut-prefix p (b ∷ bs) = go (p b) (cut-prefix p bs)
  where
    go : (c : Bool) → cut p bs ≡ (take (prefix_len p bs) bs, drop (prefix_len p bs) bs)
        → cond {A = List ℕ × List ℕ} c (b ∷ (cut p bs).0, (cut p bs).1) ([], b ∷ bs)
        ≡ (take (cond c (1 + prefix_len p bs) 0) (b ∷ bs), drop (cond c (1 + prefix_len p bs) 0) (b ∷ bs))
    go true e =
        let k : suc (prefix_len p bs) ≡ 1 + prefix_len p bs = omega arith in
        ap (λ (r : List ℕ × List ℕ). (b ∷ r.0, r.1)) e ∙ ap (λ (m : ℕ). (take m (b ∷ bs), drop m (b ∷ bs))) k
    go false e = refl

pub digits_front : (bs w : List ℕ) (n : ℕ) → n ≡ prefix_len is_digit bs → w ≡ take n bs → list_all is_digit w ≡ true
digits_front bs w n e k =
    ap (list_all is_digit) (k ∙ ap (λ m. take m bs) e) ∙ ap (λ (r : List ℕ × List ℕ). list_all is_digit r.0) (sym (cut-prefix is_digit bs)) ∙ cut_all is_digit bs

pub ruleset cuts = (cut-prefix, digits_front)
