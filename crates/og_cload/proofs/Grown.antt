-- Lists that grow by one item, or by the items of another list.
use Rattle.std.proofs.Common.{◌≡◌, ℕ, zero, suc, ◌+◌, List, [], ◌∷◌, ◌++◌, map, refl, sym, ap, ◌∙◌, arith}
use Rattle.std.specs.List.{flat_map, range_with_len}
use Rattle.std.proofs.lemmas.List.FromFn.{map-range_with_len_more}
use Rattle.og_csubset.specs.Interface.{numbers_below}

pub grown_one : {B : Type 0} (front : List B) (x : B) (rest : List B) → front ++ (x ∷ rest) ≡ (front ++ x ∷ []) ++ rest
grown_one [] x rest = refl
grown_one (y ∷ front) x rest = ap (λ l. y ∷ l) (grown_one front x rest)

one_more : (a n : ℕ) → range_with_len a (n + 1) ≡ range_with_len a (suc n)
one_more a n = let e : n + 1 ≡ suc n = omega arith in ap (range_with_len a) e

join : {B : Type 0} (xs ys zs : List B) → (xs ++ ys) ++ zs ≡ xs ++ (ys ++ zs)
join [] ys zs = refl
join (x ∷ xs) ys zs = ap (λ l. x ∷ l) (join xs ys zs)

pub none : {B : Type 0} (xs : List B) → xs ++ [] ≡ xs
none [] = refl
none (x ∷ xs) = ap (λ l. x ∷ l) (none xs)

flat_range : {B : Type 0} (f : ℕ → List B) (a n j : ℕ) → a + n ≡ j → flat_map f (range_with_len a (suc n)) ≡ flat_map f (range_with_len a n) ++ f j
flat_range f a zero j e = let same : a ≡ j = omega (arith, e) in ap (λ k. f k ++ []) same ∙ none (f j)
flat_range f a (suc n) j e =
    ap (λ l. f a ++ l) (flat_range f (a + 1) n j (omega (arith, e))) ∙ sym (join (f a) (flat_map f (range_with_len (a + 1) n)) (f j))

-- one more number below a bound
pub numbers_flat : {B : Type 0} (f : ℕ → List B) (k : ℕ) (front now next : List B) → now ≡ front ++ flat_map f (numbers_below k) → next ≡ now ++ f k
    → next ≡ front ++ flat_map f (numbers_below (k + 1))
numbers_flat f k front now next e grows =
    grows ∙ ap (λ l. l ++ f k) e ∙ join front (flat_map f (numbers_below k)) (f k)
    ∙ ap (λ l. front ++ l) (sym (ap (flat_map f) (one_more 0 k) ∙ flat_range f 0 k k (omega arith)))

pub numbers_map : {B : Type 0} (f : ℕ → B) (k : ℕ) (front now next : List B) → now ≡ front ++ map f (numbers_below k) → next ≡ now ++ f k ∷ []
    → next ≡ front ++ map f (numbers_below (k + 1))
numbers_map f k front now next e grows =
    grows ∙ ap (λ l. l ++ f k ∷ []) e ∙ join front (map f (numbers_below k)) (f k ∷ [])
    ∙ ap (λ l. front ++ l) (sym (map-range_with_len_more f 0 k k (omega arith)))

back : {B : Type 0} (now next rest : List B) (x : B) → next ≡ now ++ x ∷ [] → next ++ rest ≡ now ++ (x ∷ rest)
back now next rest x e = ap (λ l. l ++ rest) e ∙ sym (grown_one now x rest)

-- a list, and then five items
pub five_more : {B : Type 0} (l0 items l1 l2 l3 l4 l5 l6 : List B) (a b c d e : B) → l1 ≡ l0 ++ items → l2 ≡ l1 ++ a ∷ [] → l3 ≡ l2 ++ b ∷ [] → l4 ≡ l3 ++ c ∷ [] → l5 ≡ l4 ++ d ∷ []
    → l6 ≡ l5 ++ e ∷ [] → l6 ≡ l0 ++ (items ++ a ∷ b ∷ c ∷ d ∷ e ∷ [])
five_more l0 items l1 l2 l3 l4 l5 l6 a b c d e p p1 p2 p3 p4 p5 =
    p5 ∙ back l4 l5 (e ∷ []) d p4 ∙ back l3 l4 (d ∷ e ∷ []) c p3 ∙ back l2 l3 (c ∷ d ∷ e ∷ []) b p2 ∙ back l1 l2 (b ∷ c ∷ d ∷ e ∷ []) a p1
    ∙ ap (λ l. l ++ a ∷ b ∷ c ∷ d ∷ e ∷ []) p ∙ join l0 items (a ∷ b ∷ c ∷ d ∷ e ∷ [])

pub ruleset grown = (grown_one)
