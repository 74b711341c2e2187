-- Reading texts one after the other, as a loop does.
use Rattle.std.proofs.Common.{◌≡◌, ℕ, zero, suc, ◌-◌, ◌+◌, ◌≤◌, ◌<◌, List, [], ◌∷◌, ◌++◌, length, Some, None, refl, sym, ap, ◌∙◌, append_assoc, arith}
use Rattle.std.proofs.lemmas.List.{append-nil}
use Rattle.og_csubset.specs.Tokens.{Token}
use Rattle.og_csubset.specs.Reading.{Found, Reader, and_then, each_at, whole}

-- what was read before, and what is still read
abbrev pub with_front : {X : Type 0} → List X → Found (List X) → Found (List X)
with_front front found = and_then found (λ xs rest. Some (front ++ xs, rest))

-- the texts so far, with those that at most `left` more turns read, are what is read in all
pub record SoFar {X : Type 0} (one : Reader X) (front : List X) (left : ℕ) (rest : List Token) (total : Found (List X)) : Type 0 where
  pub is : with_front front (each_at one left rest) ≡ total

regroup : {X : Type 0} (front : List X) (x : X) (found : Found (List X))
    → with_front front (and_then found (λ xs rest. Some (x ∷ xs, rest))) ≡ with_front (front ++ x ∷ []) found
regroup {X = X} front x None = refl
regroup {X = X} front x (Some p) = ap (λ (ys : List X). Some (ys, p.1)) (sym (append_assoc front (x ∷ []) p.0))

nothing_before : {X : Type 0} (found : Found (List X)) → with_front [] found ≡ found
nothing_before None = refl
nothing_before (Some p) = refl

pub so_far_first : {X : Type 0} (one : Reader X) (tokens : List Token) (n : ℕ) → SoFar one [] (n - 0) tokens (each_at one n tokens)
so_far_first one tokens n =
    let k : n - 0 ≡ n = omega arith in
    record { is = nothing_before (each_at one (n - 0) tokens) ∙ ap (λ (m : ℕ). each_at one m tokens) k }

turn : {X : Type 0} (one : Reader X) (n : ℕ) (rest after : List Token) (x : X) → one rest ≡ Some (x, after)
    → each_at one (suc n) rest ≡ and_then (each_at one n after) (λ xs us. Some (x ∷ xs, us))
unfolding each_at
turn one n rest after x e = rw e refl

last_turn : {X : Type 0} (one : Reader X) (n : ℕ) (rest : List Token) → one rest ≡ None → each_at one n rest ≡ Some ([], rest)
unfolding each_at
last_turn one zero rest e = refl
last_turn one (suc n) rest e = rw e refl

pub so_far_goes_on : {X : Type 0} (one : Reader X) (front : List X) (n i : ℕ) (rest after : List Token) (x : X) (total : Found (List X))
    → i < n → one rest ≡ Some (x, after) → SoFar one front (n - i) rest total → SoFar one (front ++ x ∷ []) (n - (i + 1)) after total
so_far_goes_on one front n i rest after x total lt e so_far =
    let k : n - i ≡ suc (n - (i + 1)) = omega arith in
    let same : each_at one (n - i) rest ≡ and_then (each_at one (n - (i + 1)) after) (λ xs us. Some (x ∷ xs, us)) =
    ap (λ (m : ℕ). each_at one m rest) k ∙ turn one (n - (i + 1)) rest after x e in
    record { is = sym (ap (with_front front) same ∙ regroup front x (each_at one (n - (i + 1)) after)) ∙ so_far.is }

pub so_far_stops : {X : Type 0} (one : Reader X) (front : List X) (left : ℕ) (rest : List Token) (total : Found (List X))
    → one rest ≡ None → SoFar one front left rest total → total ≡ Some (front, rest)
so_far_stops {X = X} one front left rest total e so_far =
    sym so_far.is ∙ ap (with_front front) (last_turn one left rest e) ∙ ap (λ (xs : List X). Some (xs, rest)) (append-nil front)

pub so_far_ends : {X : Type 0} (one : Reader X) (front : List X) (n i : ℕ) (rest : List Token) (total : Found (List X))
    → n ≤ i → SoFar one front (n - i) rest total → total ≡ Some (front, rest)
unfolding each_at
so_far_ends {X = X} one front n i rest total le so_far =
    let k : n - i ≡ 0 = omega arith in
    sym so_far.is ∙ ap (λ (m : ℕ). with_front front (each_at one m rest)) k ∙ ap (λ (xs : List X). Some (xs, rest)) (append-nil front)

-- what each goal of such a loop rests on
pub ruleset turns = (so_far_first, so_far_goes_on, so_far_stops, so_far_ends)

pub not_whole : {X : Type 0} (x : X) (rest : List Token) → 1 ≤ length rest → whole (Some (x, rest)) ≡ None
not_whole x [] le = absurd (omega arith)
not_whole x (t ∷ ts) le = refl
