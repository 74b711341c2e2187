-- What one step of each scan keeps.
use Rattle.std.proofs.Common.{◌≡◌, ◌≢◌, ℕ, zero, suc, ◌+◌, ◌-◌, ◌*◌, ◌<◌, ◌≤◌, min, Bool, true, false, ◌&&◌, List, [], ◌∷◌, length, length-drop, get_or, drop, drop-cons, refl, sym, ap, ◌∙◌, cond, arith, not}
use Rattle.std.specs.Prelude.{◌==◌, Option, Some, None}
use Rattle.std.proofs.lemmas.List.{at_drop_more}
use Rattle.std.proofs.lemmas.Bool.{false≢true}
use mathlib.Core.Bool.{beq}
use Rattle.og_lexer.specs.declared.scan.PairEnd.{PairEnd}
use Rattle.og_lexer.specs.declared.scan.PairEnd.TheVariants.{Closed, Open}
use Rattle.og_lexer.specs.declared.scan.Pair.TheVariants.{Opens, Closes, Neither}
use Rattle.og_lexer.specs.Bytes.{begins, number_from}
use Rattle.og_lexer.specs.Front.{plus, pair_end, later, quote_end}
use Rattle.og_lexer.specs.AsnFront.{pair_of, nested_end}

-- numbers that are equal up to a limit stay so when digits follow
pub number_from-capped : (limit m n : ℕ) (bs : List ℕ) → min m limit ≡ min n limit → min (number_from m bs) limit ≡ min (number_from n bs) limit
number_from-capped limit m n [] same = same
number_from-capped limit m n (b ∷ bs) same = number_from-capped limit (10 * m + (b - 48)) (10 * n + (b - 48)) bs (omega arith)

-- one digit more
pub number_from-drop : (n i : ℕ) (bs : List ℕ) → i < length bs → number_from n (drop i bs) ≡ number_from (10 * n + (get_or bs i 0 - 48)) (drop (i + 1) bs)
number_from-drop n i bs inside = at_drop_more (number_from n) bs i 0 inside

pub plus-plus : (m n : ℕ) (e : PairEnd) → plus m (plus n e) ≡ plus (m + n) e
plus-plus m n (Closed k) = ap Closed (omega arith)
plus-plus m n (Open k) = ap Open (omega arith)

pub later-later : (m n : ℕ) (found : Option ℕ) → later m (later n found) ≡ later (m + n) found
later-later m n None = refl
later-later m n (Some k) = ap Some (omega arith)

pub pair_end-on : (x y : ℕ) (in_line : Bool) (b : ℕ) (bs : List ℕ) → (in_line && (b == 10)) ≡ false → ((b == x) && begins y bs) ≡ false → pair_end x y in_line (b ∷ bs) ≡ plus 1 (pair_end x y in_line bs)
pair_end-on x y in_line b bs no_end no_pair =
    ap (λ v. cond v (Open 0) (cond ((b == x) && begins y bs) (Closed 2) (plus 1 (pair_end x y in_line bs)))) no_end
    ∙ ap (λ v. cond v (Closed 2) (plus 1 (pair_end x y in_line bs))) no_pair

-- a byte that neither begins the pair nor ends the line
pub pair_end-next : (x y : ℕ) (in_line : Bool) (bs : List ℕ) (at : ℕ) → at < length bs → (in_line && (get_or bs at 0 == 10)) ≡ false → ((get_or bs at 0 == x) && begins y (drop (at + 1) bs)) ≡ false → plus (at + 1) (pair_end x y in_line (drop (at + 1) bs)) ≡ plus at (pair_end x y in_line (drop at bs))
pair_end-next x y in_line bs at inside no_end no_pair =
    sym (plus-plus at 1 _) ∙ ap (plus at) (sym (at_drop_more (pair_end x y in_line) bs at 0 inside ∙ pair_end-on x y in_line _ _ no_end no_pair))

quote_end-on : (inside : Bool) (b : ℕ) (bs : List ℕ) → (not inside && not (b == 39)) ≡ false → quote_end inside (b ∷ bs) ≡ later 1 (quote_end (not (beq inside (b == 39))) bs)
quote_end-on true b bs within = elim (b == 39) as (λ v. later 1 (quote_end (not v) bs) ≡ later 1 (quote_end (not (beq true v)) bs)) [ true ↦ refl | false ↦ refl ]
quote_end-on false b bs within = elim (b == 39) as (λ v. (not v ≡ false) → (cond v (later 1 (quote_end true bs)) (Some 0) ≡ later 1 (quote_end (not (beq false v)) bs))) [ true ↦ λ _. refl | false ↦ λ h. absurd (false≢true (sym h)) ] within

pub quote_end-next : (inside : Bool) (bs : List ℕ) (at : ℕ) → at < length bs → (not inside && not (get_or bs at 0 == 39)) ≡ false → later (at + 1) (quote_end (not (beq inside (get_or bs at 0 == 39))) (drop (at + 1) bs)) ≡ later at (quote_end inside (drop at bs))
quote_end-next inside bs at within on =
    sym (later-later at 1 _) ∙ ap (later at) (sym (at_drop_more (quote_end inside) bs at 0 within ∙ quote_end-on inside (get_or bs at 0) (drop (at + 1) bs) on))

-- ---- comments inside comments

one_in_front : (bs : List ℕ) (at : ℕ) → at < length bs → drop at bs ≡ get_or bs at 0 ∷ drop (at + 1) bs
one_in_front bs at inside = drop-cons bs at 0 inside ∙ ap (λ i. get_or bs at 0 ∷ drop i bs) (let e : suc at ≡ at + 1 = omega arith in e)

second_in_front : (bs : List ℕ) (at : ℕ) → at + 1 < length bs → drop (at + 1) bs ≡ get_or bs (at + 1) 0 ∷ drop (at + 2) bs
second_in_front bs at inside = one_in_front bs (at + 1) inside ∙ ap (λ i. get_or bs (at + 1) 0 ∷ drop i bs) (let e : at + 1 + 1 ≡ at + 2 = omega arith in e)

-- two bytes in front
two_in_front : (bs : List ℕ) (at : ℕ) → at + 1 < length bs → drop at bs ≡ get_or bs at 0 ∷ get_or bs (at + 1) 0 ∷ drop (at + 2) bs
two_in_front bs at inside = one_in_front bs at (omega arith) ∙ ap (λ l. get_or bs at 0 ∷ l) (second_in_front bs at inside)

nested_end-opening : (n b c : ℕ) (bs : List ℕ) → Opens ≡ pair_of b c → nested_end n (b ∷ c ∷ bs) ≡ later 2 (nested_end (suc n) bs)
nested_end-opening zero b c bs is =
    ap (λ p. elim p as (λ _. Option ℕ) [ Opens ↦ later 2 (nested_end 1 bs) | Closes ↦ Some 2 | Neither ↦ later 1 (nested_end 0 (c ∷ bs)) ]) (sym is)
nested_end-opening (suc n) b c bs is =
    ap (λ p. elim p as (λ _. Option ℕ) [ Opens ↦ later 2 (nested_end (suc (suc n)) bs) | Closes ↦ later 2 (nested_end n bs) | Neither ↦ later 1 (nested_end (suc n) (c ∷ bs)) ]) (sym is)

nested_end-last : (b c : ℕ) (bs : List ℕ) → Closes ≡ pair_of b c → nested_end 0 (b ∷ c ∷ bs) ≡ Some 2
nested_end-last b c bs is =
    ap (λ p. elim p as (λ _. Option ℕ) [ Opens ↦ later 2 (nested_end 1 bs) | Closes ↦ Some 2 | Neither ↦ later 1 (nested_end 0 (c ∷ bs)) ]) (sym is)

nested_end-closing : (n b c : ℕ) (bs : List ℕ) → Closes ≡ pair_of b c → nested_end (suc n) (b ∷ c ∷ bs) ≡ later 2 (nested_end n bs)
nested_end-closing n b c bs is =
    ap (λ p. elim p as (λ _. Option ℕ) [ Opens ↦ later 2 (nested_end (suc (suc n)) bs) | Closes ↦ later 2 (nested_end n bs) | Neither ↦ later 1 (nested_end (suc n) (c ∷ bs)) ]) (sym is)

pub nested_end-on : (n b c : ℕ) (bs : List ℕ) → pair_of b c ≡ Neither → nested_end n (b ∷ c ∷ bs) ≡ later 1 (nested_end n (c ∷ bs))
nested_end-on zero b c bs is =
    ap (λ p. elim p as (λ _. Option ℕ) [ Opens ↦ later 2 (nested_end 1 bs) | Closes ↦ Some 2 | Neither ↦ later 1 (nested_end 0 (c ∷ bs)) ]) is
nested_end-on (suc n) b c bs is =
    ap (λ p. elim p as (λ _. Option ℕ) [ Opens ↦ later 2 (nested_end (suc (suc n)) bs) | Closes ↦ later 2 (nested_end n bs) | Neither ↦ later 1 (nested_end (suc n) (c ∷ bs)) ]) is

-- a comment inside opens at the byte `at`
pub opens_at : (n : ℕ) (bs : List ℕ) (at : ℕ) → at + 1 < length bs → Opens ≡ pair_of (get_or bs at 0) (get_or bs (at + 1) 0) → later (at + 2) (nested_end (n + 1) (drop (at + 2) bs)) ≡ later at (nested_end n (drop at bs))
opens_at n bs at inside is =
    ap (λ m. later (at + 2) (nested_end m (drop (at + 2) bs))) (let e : n + 1 ≡ suc n = omega arith in e)
    ∙ sym (later-later at 2 _) ∙ ap (later at) (sym (ap (nested_end n) (two_in_front bs at inside) ∙ nested_end-opening n (get_or bs at 0) (get_or bs (at + 1) 0) (drop (at + 2) bs) is))

-- the comment itself ends there
pub ends_at : (bs : List ℕ) (at : ℕ) → at + 1 < length bs → Closes ≡ pair_of (get_or bs at 0) (get_or bs (at + 1) 0) → Some (at + 2) ≡ later at (nested_end 0 (drop at bs))
ends_at bs at inside is = ap (later at) (sym (ap (nested_end 0) (two_in_front bs at inside) ∙ nested_end-last (get_or bs at 0) (get_or bs (at + 1) 0) (drop (at + 2) bs) is))

-- one inside ends there
pub closes_at : (n : ℕ) (bs : List ℕ) (at : ℕ) → n ≢ 0 → at + 1 < length bs → Closes ≡ pair_of (get_or bs at 0) (get_or bs (at + 1) 0) → later (at + 2) (nested_end (n - 1) (drop (at + 2) bs)) ≡ later at (nested_end n (drop at bs))
closes_at zero bs at some inside is = absurd (some refl)
closes_at (suc n) bs at some inside is =
    ap (λ m. later (at + 2) (nested_end m (drop (at + 2) bs))) (let e : suc n - 1 ≡ n = omega arith in e)
    ∙ sym (later-later at 2 _) ∙ ap (later at) (sym (ap (nested_end (suc n)) (two_in_front bs at inside) ∙ nested_end-closing n (get_or bs at 0) (get_or bs (at + 1) 0) (drop (at + 2) bs) is))

-- neither
pub goes_by : (n : ℕ) (bs : List ℕ) (at : ℕ) → at + 1 < length bs → Neither ≡ pair_of (get_or bs at 0) (get_or bs (at + 1) 0) → later (at + 1) (nested_end n (drop (at + 1) bs)) ≡ later at (nested_end n (drop at bs))
goes_by n bs at inside is =
    sym (later-later at 1 _)
    ∙ ap (λ l. later at (later 1 (nested_end n l))) (second_in_front bs at inside)
    ∙ ap (later at) (sym (ap (nested_end n) (two_in_front bs at inside) ∙ nested_end-on n (get_or bs at 0) (get_or bs (at + 1) 0) (drop (at + 2) bs) (sym is)))

-- no pair is left
pub none_at : (n : ℕ) (bs : List ℕ) (at : ℕ) → length bs ≤ at + 1 → None ≡ later at (nested_end n (drop at bs))
none_at n bs at past = ap (later at) (sym (short n (drop at bs) (omega (arith, length-drop at bs))))
  where
    short : (n : ℕ) (xs : List ℕ) → length xs ≤ 1 → nested_end n xs ≡ None
    short n [] le = refl
    short n (x ∷ []) le = refl
    short n (x ∷ y ∷ xs) le = absurd (omega arith)
