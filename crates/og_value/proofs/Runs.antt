-- The longest front of bytes that pass, and what stands behind it.
use Rattle.std.proofs.Common.{◌≡◌, ℕ, ◌-◌, Bool, true, false, cond, List, [], ◌∷◌, ◌++◌, length, take, drop, refl, ap, ◌∙◌, subst, arith, length-append}
use Rattle.og_value.specs.Bytes.{run, behind}

-- ---- cutting where something stands behind

pub take_front : (xs ys : List ℕ) → take (length xs) (xs ++ ys) ≡ xs
take_front [] ys = refl
take_front (x ∷ xs) ys = ap (λ zs. x ∷ zs) (take_front xs ys)

pub drop_front : (xs ys : List ℕ) → drop (length xs) (xs ++ ys) ≡ ys
drop_front [] ys = refl
drop_front (x ∷ xs) ys = drop_front xs ys

pub front_len : (xs ys : List ℕ) → length (xs ++ ys) - length ys ≡ length xs
front_len xs ys = omega (arith, length-append xs ys)

pub before_is : (xs ys : List ℕ) → take (length (xs ++ ys) - length ys) (xs ++ ys) ≡ xs
before_is xs ys = ap (λ n. take n (xs ++ ys)) (front_len xs ys) ∙ take_front xs ys

pub behind_is : (xs ys : List ℕ) → drop (length (xs ++ ys) - length ys) (xs ++ ys) ≡ ys
behind_is xs ys = ap (λ n. drop n (xs ++ ys)) (front_len xs ys) ∙ drop_front xs ys

-- ---- runs

one_more : (b : Bool) (x : ℕ) (r s xs : List ℕ) → r ++ s ≡ xs → cond b (x ∷ r) [] ++ cond b s (x ∷ xs) ≡ x ∷ xs
one_more true x r s xs e = ap (λ zs. x ∷ zs) e
one_more false x r s xs e = refl

pub run_joined : (passes : ℕ → Bool) (bytes : List ℕ) → run passes bytes ++ behind passes bytes ≡ bytes
run_joined passes [] = refl
run_joined passes (b ∷ bs) = one_more (passes b) b (run passes bs) (behind passes bs) bs (run_joined passes bs)

pub cut_front : (passes : ℕ → Bool) (bytes : List ℕ) (n : ℕ) → n ≡ length bytes - length (behind passes bytes) → take n bytes ≡ run passes bytes
cut_front passes bytes n e =
    ap (λ k. take k bytes) e
    ∙ subst (λ (xs : List ℕ). take (length xs - length (behind passes bytes)) xs ≡ run passes bytes) (run_joined passes bytes) (before_is (run passes bytes) (behind passes bytes))

pub cut_back : (passes : ℕ → Bool) (bytes : List ℕ) (n : ℕ) → n ≡ length bytes - length (behind passes bytes) → drop n bytes ≡ behind passes bytes
cut_back passes bytes n e =
    ap (λ k. drop k bytes) e
    ∙ subst (λ (xs : List ℕ). drop (length xs - length (behind passes bytes)) xs ≡ behind passes bytes) (run_joined passes bytes) (behind_is (run passes bytes) (behind passes bytes))
