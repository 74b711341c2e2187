-- The statements at the places that were passed: at most as many as in all functions, and each
-- place that is passed anew adds its own.
use Rattle.std.proofs.Common.{◌≡◌, ℕ, zero, suc, ◌+◌, ◌≤◌, ◌<◌, Bool, true, false, ◌&&◌, ◌||◌, nat_eq, List, [], ◌∷◌, length, slice_get, Some, ◌⊎◌, inl, inr, ◌≢◌, refl, sym, ap, subst, ◌∙◌, arith}
use Rattle.std.proofs.lemmas.Bool.{ne_eqb, eq-eqb}
use Rattle.std.proofs.lemmas.Bool.Decides.{eqb_tells}
use Rattle.std.proofs.lemmas.Option.{none-some}
use Rattle.og_ir.specs.declared.Ir.{Ir}
use Rattle.og_ir.specs.declared.FlatFn.{FlatFn}
use Rattle.og_csubset.specs.Paced.{Pace, statements_below, paced_size_from, paced_size}
use Rattle.og_follow.specs.Passing.{Passed, with_place, counted, passed_below, passed_from, passed}

-- ---- at most all statements

counted_le : (b : Bool) (n : ℕ) → counted b n ≤ n
counted_le true n = omega (arith)
counted_le false n = omega (arith)

below_le : (pace : ℕ → ℕ) (seen : ℕ → Bool) (n : ℕ) → passed_below pace seen n ≤ statements_below pace n
below_le pace seen zero = omega (arith)
below_le pace seen (suc n) =
    let a = below_le pace seen n in let b = counted_le (seen n) (pace n) in omega (arith, a, b)

from_le : (pace : Pace) (seen : Passed) (k : ℕ) (functions : List FlatFn) → passed_from pace seen k functions ≤ paced_size_from pace k functions
from_le pace seen k [] = omega (arith)
from_le pace seen k (f ∷ functions) =
    let a = below_le (pace k) (seen k) (length f.code + 1) in let b = from_le pace seen (k + 1) functions in omega (arith, a, b)

pub passed_le : (pace : Pace) (seen : Passed) (ir : Ir) → passed pace seen ir ≤ paced_size pace ir
passed_le pace seen ir = from_le pace seen 0 ir.functions

-- ---- one place more

below_same : (pace : ℕ → ℕ) (a b : ℕ → Bool) → ((q : ℕ) → a q ≡ b q) → (n : ℕ) → passed_below pace a n ≡ passed_below pace b n
below_same pace a b same zero = refl
below_same pace a b same (suc n) =
    ap (λ x. x + counted (a n) (pace n)) (below_same pace a b same n) ∙ ap (λ c. passed_below pace b n + counted c (pace n)) (same n)

-- a place of this function or of another one
here : (seen : Passed) (f p q : ℕ) → with_place seen f p f q ≡ (nat_eq q p || seen f q)
here seen f p q = ap (λ b. (b && nat_eq q p) || seen f q) (eq-eqb f f refl)

pub elsewhere : (seen : Passed) (f p g q : ℕ) → (g ≡ f → ⊥) → with_place seen f p g q ≡ seen g q
elsewhere seen f p g q other = ap (λ b. (b && nat_eq q p) || seen g q) (ne_eqb g f other)

-- another place of this function
pub not_there : (seen : Passed) (f p q : ℕ) → (q ≡ p → ⊥) → with_place seen f p f q ≡ seen f q
not_there seen f p q other = here seen f p q ∙ ap (λ b. b || seen f q) (ne_eqb q p other)

abbrev also : (ℕ → Bool) → ℕ → ℕ → Bool
also seen p q = nat_eq q p || seen q

below_before : (pace : ℕ → ℕ) (seen : ℕ → Bool) (p n : ℕ) → n ≤ p → passed_below pace (also seen p) n ≡ passed_below pace seen n
below_before pace seen p zero le = refl
below_before pace seen p (suc n) le =
    ap (λ x. x + counted (also seen p n) (pace n)) (below_before pace seen p n (omega (arith, le)))
    ∙ ap (λ b. passed_below pace seen n + counted (b || seen n) (pace n)) (ne_eqb n p (λ e. omega (arith, le, e)))

plus_of : (a b c d : ℕ) → a ≡ b + d → a + c ≡ (b + c) + d
plus_of a b c d e = omega (arith, e)

nothing_more : (a b : ℕ) → a ≡ a + 0
nothing_more a b = omega (arith)

no_more : (a b : ℕ) (c : Bool) → c ≡ false → a ≡ a + counted c b
no_more a b c e = nothing_more a b ∙ ap (λ d. a + counted d b) (sym e)

below_with : (pace : ℕ → ℕ) (seen : ℕ → Bool) (p n : ℕ) → seen p ≡ false → p < n → passed_below pace (also seen p) n ≡ passed_below pace seen n + pace p
below_with pace seen p zero new lt = absurd (omega (arith, lt))
below_with pace seen p (suc n) new lt =
    choose (eqb_tells n p) (λ other. below_with pace seen p n new (omega (arith, lt, other)))
  where
    choose : ((nat_eq n p ≡ true) × (n ≡ p)) ⊎ ((nat_eq n p ≡ false) × (n ≢ p))
        → ((n ≢ p) → passed_below pace (also seen p) n ≡ passed_below pace seen n + pace p)
        → passed_below pace (also seen p) (suc n) ≡ passed_below pace seen (suc n) + pace p
    choose (inl (t, e)) earlier =
        ap (λ b. passed_below pace (also seen p) n + counted (b || seen n) (pace n)) t
        ∙ ap (λ x. x + pace n) (below_before pace seen p n (omega (arith, e)))
        ∙ ap (λ q. passed_below pace seen n + pace q) e
        ∙ ap (λ x. x + pace p) (no_more (passed_below pace seen n) (pace n) (seen n) (ap seen e ∙ new))
    choose (inr (f, other)) earlier =
        ap (λ b. passed_below pace (also seen p) n + counted (b || seen n) (pace n)) f
        ∙ plus_of (passed_below pace (also seen p) n) (passed_below pace seen n) (counted (seen n) (pace n)) (pace p) (earlier other)

from_before : (pace : Pace) (seen : Passed) (f p k : ℕ) (functions : List FlatFn) → f < k → passed_from pace (with_place seen f p) k functions ≡ passed_from pace seen k functions
from_before pace seen f p k [] lt = refl
from_before pace seen f p k (g ∷ functions) lt =
    ap (λ x. x + passed_from pace (with_place seen f p) (k + 1) functions)
    (below_same (pace k) (with_place seen f p k) (seen k) (λ q. elsewhere seen f p k q (λ e. omega (arith, lt, e))) (length g.code + 1))
    ∙ ap (λ x. passed_below (pace k) (seen k) (length g.code + 1) + x) (from_before pace seen f p (k + 1) functions (omega (arith, lt)))

plus_in : (a b c d : ℕ) → a ≡ b + d → a + c ≡ b + c + d
plus_in a b c d e = omega (arith, e)

plus_behind : (a b c d : ℕ) → b ≡ c + d → a + b ≡ a + c + d
plus_behind a b c d e = omega (arith, e)

from_with : (pace : Pace) (seen : Passed) (k i f p : ℕ) (functions : List FlatFn) (g : FlatFn) → f ≡ k + i → slice_get functions i ≡ Some g → p ≤ length g.code → seen f p ≡ false → passed_from pace (with_place seen f p) k functions ≡ passed_from pace seen k functions + pace f p
from_with pace seen k i f p [] g e at le new = absurd (none-some g at)
from_with pace seen k zero f p (h ∷ functions) g e at le new =
    let same : f ≡ k = omega (arith, e) in
    let is : h ≡ g = some_is at in
    plus_in (passed_below (pace k) (with_place seen f p k) (length h.code + 1)) (passed_below (pace k) (seen k) (length h.code + 1))
    (passed_from pace (with_place seen f p) (k + 1) functions) (pace f p)
    (first_with same (subst (λ x. p ≤ length x.code) (sym is) le))
    ∙ ap (λ x. passed_below (pace k) (seen k) (length h.code + 1) + x + pace f p) (from_before pace seen f p (k + 1) functions (omega (arith, e)))
  where
    some_is : Some h ≡ Some g → h ≡ g
    some_is s = search

    first_with : f ≡ k → p ≤ length h.code → passed_below (pace k) (with_place seen f p k) (length h.code + 1) ≡ passed_below (pace k) (seen k) (length h.code + 1) + pace f p
    first_with same within =
        subst (λ j. passed_below (pace j) (with_place seen f p j) (length h.code + 1) ≡ passed_below (pace j) (seen j) (length h.code + 1) + pace f p) same
        (below_same (pace f) (with_place seen f p f) (also (seen f) p) (here seen f p) (length h.code + 1)
        ∙ below_with (pace f) (seen f) p (length h.code + 1) new (omega (arith, within)))
from_with pace seen k (suc i) f p (h ∷ functions) g e at le new =
    ap (λ x. x + passed_from pace (with_place seen f p) (k + 1) functions)
    (below_same (pace k) (with_place seen f p k) (seen k) (λ q. elsewhere seen f p k q (λ x. omega (arith, x, e))) (length h.code + 1))
    ∙ plus_behind (passed_below (pace k) (seen k) (length h.code + 1)) (passed_from pace (with_place seen f p) (k + 1) functions) (passed_from pace seen (k + 1) functions) (pace f p)
    (from_with pace seen (k + 1) i f p functions g (omega (arith, e)) at le new)

pub passed_with : (pace : Pace) (seen : Passed) (ir : Ir) (f p : ℕ) (g : FlatFn) → slice_get ir.functions f ≡ Some g → p ≤ length g.code → seen f p ≡ false → passed pace (with_place seen f p) ir ≡ passed pace seen ir + pace f p
passed_with pace seen ir f p g at le new = from_with pace seen 0 f f p ir.functions g (omega (arith)) at le new
