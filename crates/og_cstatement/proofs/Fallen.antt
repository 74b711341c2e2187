-- Calls that are being carried out, each before the one that called it.
use Rattle.std.proofs.Common.{◌≡◌, ℕ, ◌≤◌, ◌<◌, List, [], ◌∷◌, ◌++◌, length, true, nat_lt, ◌&&◌, refl, sym, ap, ◌∙◌, arith}
use Rattle.std.proofs.lemmas.Bool.Decides.{nat_tests}
use Rattle.og_names.proofs.Truths.{both_true, both_first, both_second}
use Rattle.og_cstatement.specs.declared.position.Call.{Call}
use Rattle.og_cstatement.specs.declared.position.Standing.{Standing}
use Rattle.og_cstatement.specs.declared.position.Standing.TheVariants.{Running, Idle, Stuck}
use Rattle.og_cstatement.specs.Falling.{falls, calls_standing}
use Rattle.og_cstatement.specs.Effects.{IsNext, InFunction, IsRunning}

below : (f top : ℕ) → nat_lt f top ≡ true → f < top
below f top e = grind (arith, nat_tests, e)

is_below : (f top : ℕ) → f < top → nat_lt f top ≡ true
is_below f top lt = grind (arith, nat_tests, lt)

-- another place of the last function
falls_place : (top : ℕ) (calls : List Call) (c d : Call) → d.function ≡ c.function → falls top (calls ++ c ∷ []) ≡ true → falls top (calls ++ d ∷ []) ≡ true
falls_place top [] c d e h = ap (λ f. nat_lt f top && true) e ∙ h
falls_place top (b ∷ calls) c d e h =
    both_true (nat_lt b.function top) (falls b.function (calls ++ d ∷ [])) (both_first (nat_lt b.function top) (falls b.function (calls ++ c ∷ [])) h)
    (falls_place b.function calls c d e (both_second (nat_lt b.function top) (falls b.function (calls ++ c ∷ [])) h))

-- one call more
falls_more : (top : ℕ) (calls : List Call) (c d : Call) → d.function < c.function → falls top (calls ++ c ∷ []) ≡ true → falls top ((calls ++ c ∷ []) ++ d ∷ []) ≡ true
falls_more top [] c d lt h =
    both_true (nat_lt c.function top) (nat_lt d.function c.function && true) (both_first (nat_lt c.function top) true h)
    (both_true (nat_lt d.function c.function) true (is_below d.function c.function lt) refl)
falls_more top (b ∷ calls) c d lt h =
    both_true (nat_lt b.function top) (falls b.function ((calls ++ c ∷ []) ++ d ∷ [])) (both_first (nat_lt b.function top) (falls b.function (calls ++ c ∷ [])) h)
    (falls_more b.function calls c d lt (both_second (nat_lt b.function top) (falls b.function (calls ++ c ∷ [])) h))

-- one call less
falls_less : (top : ℕ) (calls more : List Call) → falls top (calls ++ more) ≡ true → falls top calls ≡ true
falls_less top [] more h = refl
falls_less top (b ∷ calls) more h =
    both_true (nat_lt b.function top) (falls b.function calls) (both_first (nat_lt b.function top) (falls b.function (calls ++ more)) h)
    (falls_less b.function calls more (both_second (nat_lt b.function top) (falls b.function (calls ++ more)) h))

-- there are no more of them than functions
falls_length : (top : ℕ) (calls : List Call) (c : Call) → falls top (calls ++ c ∷ []) ≡ true → length calls < top
falls_length top [] c h = let lt = below c.function top (both_first (nat_lt c.function top) true h) in omega (arith, lt)
falls_length top (b ∷ calls) c h =
    let lt = below b.function top (both_first (nat_lt b.function top) (falls b.function (calls ++ c ∷ [])) h) in
    let less = falls_length b.function calls c (both_second (nat_lt b.function top) (falls b.function (calls ++ c ∷ [])) h) in
    omega (arith, lt, less)

-- ---- positions

pub falls_here : (top : ℕ) (from : Standing) (callers : List Call) (place : Call) → InFunction place.function from → falls top (calls_standing from callers) ≡ true
    → falls top (callers ++ place ∷ []) ≡ true
falls_here top (Running call) callers place e h = falls_place top callers call place e h
falls_here top Idle callers place e h = absurd e
falls_here top (Stuck rule) callers place e h = absurd e

pub falls_next : (top : ℕ) (from : Standing) (callers grown : List Call) (next : Call) (function : ℕ) → IsNext next from → function < next.function → grown ≡ callers ++ next ∷ []
    → falls top (calls_standing from callers) ≡ true → falls top (grown ++ record { function = function; place = 0 } ∷ []) ≡ true
falls_next top (Running call) callers grown next function n lt g h =
    ap (λ l. falls top (l ++ record { function = function; place = 0 } ∷ [])) g
    ∙ falls_more top callers next (record { function = function; place = 0 }) lt (falls_place top callers call next (ap (λ (c : Call). c.function) n) h)
falls_next top Idle callers grown next function n lt g h = absurd n
falls_next top (Stuck rule) callers grown next function n lt g h = absurd n

pub falls_back : (top : ℕ) (from : Standing) (callers rest : List Call) (caller : Call) → IsRunning from → callers ≡ rest ++ caller ∷ []
    → falls top (calls_standing from callers) ≡ true → falls top (rest ++ caller ∷ []) ≡ true
falls_back top (Running call) callers rest caller runs e h = ap (falls top) (sym e) ∙ falls_less top callers (call ∷ []) h
falls_back top Idle callers rest caller runs e h = absurd runs
falls_back top (Stuck rule) callers rest caller runs e h = absurd runs

pub has_room : (top capacity : ℕ) (from : Standing) (callers : List Call) → IsRunning from → falls top (calls_standing from callers) ≡ true → top ≤ capacity → length callers < capacity
has_room top capacity (Running call) callers runs h le = let lt = falls_length top callers call h in omega (arith, lt, le)
has_room top capacity Idle callers runs h le = absurd runs
has_room top capacity (Stuck rule) callers runs h le = absurd runs
