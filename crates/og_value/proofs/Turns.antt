-- Reading values one after the other, as a loop does.
use Rattle.std.proofs.Common.{◌≡◌, ℕ, zero, suc, ◌-◌, ◌+◌, ◌≤◌, ◌<◌, List, [], ◌∷◌, ◌++◌, length, drop, get_or, Some, None, refl, sym, ap, ◌∙◌, append_assoc, arith}
use Rattle.std.proofs.lemmas.List.{append-nil, at_drop_more, at_drop_all}
use Rattle.og_types.specs.declared.TypeId.{TypeId}
use Rattle.og_types.specs.declared.Part.{Part}
use Rattle.og_types.specs.declared.Value.{Value}
use Rattle.og_value.specs.Reads.{Names}
use Rattle.og_value.specs.Scans.{Found, Reader, and_then, each_by, comma_by, component_by, components_by}
use Rattle.og_value.specs.Answers.{with_front}

regroup : {X : Type 0} (front : List X) (x : X) (found : Found (List X))
    → with_front front (and_then found (λ xs rest. Some (x ∷ xs, rest))) ≡ with_front (front ++ x ∷ []) found
regroup {X = X} front x None = refl
regroup {X = X} front x (Some p) = ap (λ (ys : List X). Some (ys, p.1)) (sym (append_assoc front (x ∷ []) p.0))

-- ---- as many as there are

-- the values so far, with those that at most `left` more turns read, are what is read in all
pub record SoFar {X : Type 0} (one : Reader X) (front : List X) (left : ℕ) (rest : List ℕ) (total : Found (List X)) : Type 0 where
  pub is : with_front front (each_by one left rest) ≡ total

pub so_far_first : {X : Type 0} (one : Reader X) (front : List X) (bytes : List ℕ) (n : ℕ) → SoFar one front (n - 0) bytes (with_front front (each_by one n bytes))
so_far_first one front bytes n =
    let k : n - 0 ≡ n = omega arith in
    record { is = ap (λ (m : ℕ). with_front front (each_by one m bytes)) k }

turn : {X : Type 0} (one : Reader X) (n : ℕ) (rest after : List ℕ) (x : X) → one rest ≡ Some (x, after)
    → each_by one (suc n) rest ≡ and_then (each_by one n after) (λ xs us. Some (x ∷ xs, us))
unfolding each_by
turn one n rest after x e = rw e refl

last_turn : {X : Type 0} (one : Reader X) (n : ℕ) (rest : List ℕ) → one rest ≡ None → each_by one n rest ≡ Some ([], rest)
unfolding each_by
last_turn one zero rest e = refl
last_turn one (suc n) rest e = rw e refl

pub so_far_goes_on : {X : Type 0} (one : Reader X) (front : List X) (n i : ℕ) (rest after : List ℕ) (x : X) (total : Found (List X))
    → i < n → one rest ≡ Some (x, after) → SoFar one front (n - i) rest total → SoFar one (front ++ x ∷ []) (n - (i + 1)) after total
so_far_goes_on one front n i rest after x total lt e so_far =
    let k : n - i ≡ suc (n - (i + 1)) = omega arith in
    let same : each_by one (n - i) rest ≡ and_then (each_by one (n - (i + 1)) after) (λ xs us. Some (x ∷ xs, us)) =
    ap (λ (m : ℕ). each_by one m rest) k ∙ turn one (n - (i + 1)) rest after x e in
    record { is = sym (ap (with_front front) same ∙ regroup front x (each_by one (n - (i + 1)) after)) ∙ so_far.is }

pub so_far_stops : {X : Type 0} (one : Reader X) (front : List X) (left : ℕ) (rest : List ℕ) (total : Found (List X))
    → one rest ≡ None → SoFar one front left rest total → total ≡ Some (front, rest)
so_far_stops {X = X} one front left rest total e so_far =
    sym so_far.is ∙ ap (with_front front) (last_turn one left rest e) ∙ ap (λ (xs : List X). Some (xs, rest)) (append-nil front)

pub so_far_ends : {X : Type 0} (one : Reader X) (front : List X) (n i : ℕ) (rest : List ℕ) (total : Found (List X))
    → n ≤ i → SoFar one front (n - i) rest total → total ≡ Some (front, rest)
unfolding each_by
so_far_ends {X = X} one front n i rest total le so_far =
    let k : n - i ≡ 0 = omega arith in
    sym so_far.is ∙ ap (λ (m : ℕ). with_front front (each_by one m rest)) k ∙ ap (λ (xs : List X). Some (xs, rest)) (append-nil front)

-- ---- one for each component

-- the values so far, with those of the components from the i-th on, are what is read in all
pub record Through (read : TypeId → Reader Value) (names : Names) (front : List Value) (parts : List Part) (i : ℕ) (rest : List ℕ) (total : Found (List Value)) : Type 0 where
  pub is : with_front front (components_by read names (drop i parts) rest) ≡ total

pub through_first : (read : TypeId → Reader Value) (names : Names) (front : List Value) (parts : List Part) (rest : List ℕ)
    → Through read names front parts 0 rest (with_front front (components_by read names parts rest))
through_first read names front parts rest = record { is = refl }

step : (read : TypeId → Reader Value) (names : Names) (p : Part) (parts : List Part) (rest : List ℕ)
    → components_by read names (p ∷ parts) rest
    ≡ and_then (comma_by (component_by read names p) rest) (λ v after. and_then (components_by read names parts after) (λ vs more. Some (v ∷ vs, more)))
unfolding components_by
step read names p parts rest = refl

pub through_more : (read : TypeId → Reader Value) (names : Names) (front : List Value) (parts : List Part) (i : ℕ) (d : Part) (rest after : List ℕ) (v : Value) (total : Found (List Value))
    → i < length parts → comma_by (component_by read names (get_or parts i d)) rest ≡ Some (v, after)
    → Through read names front parts i rest total → Through read names (front ++ v ∷ []) parts (i + 1) after total
through_more read names front parts i d rest after v total lt e so_far =
    let split = at_drop_more (λ (ps : List Part). components_by read names ps rest) parts i d lt in
    let here : components_by read names (drop i parts) rest ≡ and_then (components_by read names (drop (i + 1) parts) after) (λ vs more. Some (v ∷ vs, more)) =
    split ∙ step read names (get_or parts i d) (drop (i + 1) parts) rest
    ∙ ap (λ found. and_then found (λ w r. and_then (components_by read names (drop (i + 1) parts) r) (λ vs more. Some (w ∷ vs, more)))) e in
    record { is = sym (ap (with_front front) here ∙ regroup front v (components_by read names (drop (i + 1) parts) after)) ∙ so_far.is }

pub through_stop : (read : TypeId → Reader Value) (names : Names) (front : List Value) (parts : List Part) (i : ℕ) (d : Part) (rest : List ℕ) (total : Found (List Value))
    → i < length parts → comma_by (component_by read names (get_or parts i d)) rest ≡ None
    → Through read names front parts i rest total → total ≡ None
through_stop read names front parts i d rest total lt e so_far =
    let split = at_drop_more (λ (ps : List Part). components_by read names ps rest) parts i d lt in
    sym so_far.is
    ∙ ap (with_front front) (split ∙ step read names (get_or parts i d) (drop (i + 1) parts) rest
    ∙ ap (λ found. and_then found (λ w r. and_then (components_by read names (drop (i + 1) parts) r) (λ vs more. Some (w ∷ vs, more)))) e)

pub through_end : (read : TypeId → Reader Value) (names : Names) (front : List Value) (parts : List Part) (i : ℕ) (rest : List ℕ) (total : Found (List Value))
    → length parts ≤ i → Through read names front parts i rest total → total ≡ Some (front, rest)
unfolding components_by
through_end read names front parts i rest total le so_far =
    sym so_far.is ∙ ap (with_front front) (at_drop_all (λ (ps : List Part). components_by read names ps rest) parts i le) ∙ ap (λ (xs : List Value). Some (xs, rest)) (append-nil front)

pub ruleset turns = (so_far_first, so_far_goes_on, so_far_stops, so_far_ends, through_first, through_more, through_stop, through_end)
