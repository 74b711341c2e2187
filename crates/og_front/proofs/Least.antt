-- The first violation of a list is the least of them.
use Rattle.std.proofs.Common.{◌≡◌, ℕ, zero, suc, ◌<◌, Bool, true, false, ◌&&◌, ◌||◌, ◌==◌, nat_lt, if◌then◌else◌, List, [], ◌∷◌, length, get_or, Option, Some, None, Contains, refl, sym, ap, subst, ◌∙◌, ◌⊎◌, inl, inr, arith, true≢false}
use Rattle.std.specs.Prelude.{◌↔◌}
use Rattle.std.proofs.lemmas.Bool.Decides.{nat_tests}
use Rattle.og_base.specs.declared.Violation.{Violation}
use Rattle.og_base.specs.Order.{rank, comes_before, sooner, first_from, first_of}
use Rattle.og_names.proofs.Truths.{either_second as either_right, either_true as either}

-- ---- the order is transitive

-- of two lists of numbers, the first is less at the first place at which they differ
abbrev less : List ℕ → List ℕ → Bool
less [] ys = false
less (x ∷ xs) [] = false
less (x ∷ xs) (y ∷ ys) = nat_lt x y || ((x == y) && less xs ys)

abbrev keys : Violation → List ℕ
keys v = v.place.file ∷ v.place.line ∷ v.place.column ∷ rank v.rule ∷ []

regroup : (f f' l l' c c' r r' : Bool)
    → (f || (f' && (l || (l' && c)))) || (f' && l' && c' && r) ≡ f || (f' && (l || (l' && (c || (c' && (r || (r' && false)))))))
regroup true f' l l' c c' r r' = refl
regroup false false l l' c c' r r' = refl
regroup false true true l' c c' r r' = refl
regroup false true false false c c' r r' = refl
regroup false true false true true c' r r' = refl
regroup false true false true false false r r' = refl
regroup false true false true false true true r' = refl
regroup false true false true false true false true = refl
regroup false true false true false true false false = refl

by_keys : (v w : Violation) → comes_before v w ≡ less (keys v) (keys w)
by_keys v w =
    regroup (nat_lt v.place.file w.place.file) (v.place.file == w.place.file) (nat_lt v.place.line w.place.line) (v.place.line == w.place.line)
    (nat_lt v.place.column w.place.column) (v.place.column == w.place.column) (nat_lt (rank v.rule) (rank w.rule)) (rank v.rule == rank w.rule)

abbrev Goes : ℕ → ℕ → Bool → Type 0
Goes x y later = (x < y) ⊎ ((x ≡ y) × (later ≡ true))

both : (a b : Bool) → a && b ≡ true → (a ≡ true) × (b ≡ true)
both true b h = (refl, h)
both false b h = absurd (true≢false (sym h))

is_less : (x y : ℕ) → nat_lt x y ≡ true → x < y
is_less x y h = grind (arith, nat_tests)

is_same : (x y : ℕ) → (x == y) ≡ true → x ≡ y
is_same x y h = grind (arith, nat_tests)

lesser : (x y : ℕ) → x < y → nat_lt x y ≡ true
lesser x y h = grind (arith, nat_tests)

same : (x : ℕ) → (x == x) ≡ true
same x = grind (arith, nat_tests)

not_less : (x : ℕ) → nat_lt x x ≡ false
not_less x = grind (arith, nat_tests)

goes : (x y : ℕ) (later : Bool) → nat_lt x y || ((x == y) && later) ≡ true → Goes x y later
goes x y later h =
    elim (either (nat_lt x y) ((x == y) && later) h) [
      | inl lt ↦ inl (is_less x y lt)
      | inr on ↦ let parts = both (x == y) later on in inr (is_same x y parts.0, parts.1)
    ]

came_less : (x y : ℕ) (later : Bool) → x < y → nat_lt x y || ((x == y) && later) ≡ true
came_less x y later lt = ap (λ b. b || ((x == y) && later)) (lesser x y lt)

came_same : (x y : ℕ) (later : Bool) → x ≡ y → later ≡ true → nat_lt x y || ((x == y) && later) ≡ true
came_same x y later e h = either_right (nat_lt x y) ((x == y) && later) ((λ i. (x == sym e i) && later) ∙ (λ i. same x i && h i))

less_on : (xs ys zs : List ℕ) → less xs ys ≡ true → less ys zs ≡ true → less xs zs ≡ true
less_on [] ys zs a b = a
less_on (x ∷ xs) [] zs a b = absurd (true≢false (sym a))
less_on (x ∷ xs) (y ∷ ys) [] a b = b
less_on (x ∷ xs) (y ∷ ys) (z ∷ zs) a b =
    elim (goes x y (less xs ys) a) [
      | inl lt ↦ elim (goes y z (less ys zs) b) [
        | inl lt' ↦ came_less x z (less xs zs) (omega arith)
        | inr on' ↦ came_less x z (less xs zs) (omega arith)
      ]
      | inr on ↦ elim (goes y z (less ys zs) b) [
        | inl lt' ↦ came_less x z (less xs zs) (omega arith)
        | inr on' ↦ came_same x z (less xs zs) (on.0 ∙ on'.0) (less_on xs ys zs on.1 on'.1)
      ]
    ]

less_never : (xs : List ℕ) → less xs xs ≡ false
less_never [] = refl
less_never (x ∷ xs) = (λ i. not_less x i || (same x i && less xs xs)) ∙ less_never xs

before_on : (u v w : Violation) → comes_before u v ≡ true → comes_before v w ≡ true → comes_before u w ≡ true
before_on u v w a b = by_keys u w ∙ less_on (keys u) (keys v) (keys w) (sym (by_keys u v) ∙ a) (sym (by_keys v w) ∙ b)

before_never : (v : Violation) → comes_before v v ≡ false
before_never v = by_keys v v ∙ less_never (keys v)

decided : (b : Bool) → (b ≡ true) ⊎ (b ≡ false)
decided true = inl refl
decided false = inr refl

-- what does not come before a violation does not come before an earlier one
not_before : (u w best : Violation) → comes_before u best ≡ false → comes_before w best ≡ true → comes_before u w ≡ false
not_before u w best stayed won =
    elim (decided (comes_before u w)) [
      | inl there ↦ absurd (true≢false (sym (before_on u w best there won) ∙ stayed))
      | inr not ↦ not
    ]

-- ---- the first of a list

-- the sooner of two
abbrev Chosen : Violation → Violation → Type 0
Chosen best w = ((comes_before w best ≡ true) × (sooner (Some best) w ≡ Some w)) ⊎ ((comes_before w best ≡ false) × (sooner (Some best) w ≡ Some best))

chosen : (best w : Violation) → Chosen best w
chosen best w =
    elim (decided (comes_before w best)) [
      | inl won ↦ inl (won, ap (λ b. if b then Some w else Some best) won)
      | inr stayed ↦ inr (stayed, ap (λ b. if b then Some w else Some best) stayed)
    ]

same_some : (v w : Violation) → Some v ≡ Some w → v ≡ w
same_some v w e = cc

-- from the choice that is made at w
went : (b c : Option Violation) (vs : List Violation) (v : Violation) → b ≡ c → first_from b vs ≡ Some v → first_from c vs ≡ Some v
went b c vs v e h = ap (λ x. first_from x vs) (sym e) ∙ h

-- what does not come before the best so far does not come before the best of all
kept : (best v u : Violation) (vs : List Violation) → first_from (Some best) vs ≡ Some v → comes_before u best ≡ false → comes_before u v ≡ false
kept best v u [] h stayed = ap (comes_before u) (sym (same_some best v h)) ∙ stayed
kept best v u (w ∷ vs) h stayed =
    elim (chosen best w) [
      | inl won ↦ kept w v u vs (went (sooner (Some best) w) (Some w) vs v won.1 h) (not_before u w best stayed won.0)
      | inr not ↦ kept best v u vs (went (sooner (Some best) w) (Some best) vs v not.1 h) stayed
    ]

-- an element is the first one or one of the others
split_at : (x u : Violation) (xs : List Violation) (k : ℕ) → k < length (x ∷ xs) → get_or (x ∷ xs) k u ≡ u → (x ≡ u) ⊎ Contains xs u
split_at x u xs zero lt at = inl at
split_at x u xs (suc k) lt at = inr (k, omega arith, at)

split : (x u : Violation) (xs : List Violation) → Contains (x ∷ xs) u → (x ≡ u) ⊎ Contains xs u
split x u xs there = split_at x u xs there.0 there.1 there.2

first_there : (x : Violation) (xs : List Violation) → Contains (x ∷ xs) x
first_there x xs = (0, omega arith, refl)

later_there : (x u : Violation) (xs : List Violation) → Contains xs u → Contains (x ∷ xs) u
later_there x u xs there = (suc there.0, omega arith, there.2)

each_after : (best v u : Violation) (vs : List Violation) → first_from (Some best) vs ≡ Some v → Contains vs u → comes_before u v ≡ false
each_after best v u [] h there = absurd (omega (arith, there.1))
each_after best v u (w ∷ vs) h there =
    elim (chosen best w) [
      | inl won ↦ let on = went (sooner (Some best) w) (Some w) vs v won.1 h in
          elim (split w u vs there) [
            | inl is ↦ kept w v u vs on (ap (λ x. comes_before x w) (sym is) ∙ before_never w)
            | inr later ↦ each_after w v u vs on later
          ]
      | inr not ↦ let on = went (sooner (Some best) w) (Some best) vs v not.1 h in
          elim (split w u vs there) [
            | inl is ↦ kept best v u vs on (ap (λ x. comes_before x best) (sym is) ∙ not.0)
            | inr later ↦ each_after best v u vs on later
          ]
    ]

among_after : (best v : Violation) (vs : List Violation) → first_from (Some best) vs ≡ Some v → Contains (best ∷ vs) v
among_after best v [] h = subst (λ x. Contains (best ∷ []) x) (same_some best v h) (first_there best [])
among_after best v (w ∷ vs) h =
    elim (chosen best w) [
      | inl won ↦ later_there best v (w ∷ vs) (among_after w v vs (went (sooner (Some best) w) (Some w) vs v won.1 h))
      | inr not ↦ elim (split best v vs (among_after best v vs (went (sooner (Some best) w) (Some best) vs v not.1 h))) [
        | inl is ↦ subst (λ x. Contains (best ∷ w ∷ vs) x) is (first_there best (w ∷ vs))
        | inr later ↦ later_there best v (w ∷ vs) (later_there w v vs later)
      ]
    ]

some_stays : (best : Violation) (vs : List Violation) → first_from (Some best) vs ≡ None → ⊥
some_stays best [] h = cc
some_stays best (w ∷ vs) h =
    elim (chosen best w) [
      | inl won ↦ some_stays w vs (ap (λ x. first_from x vs) (sym won.1) ∙ h)
      | inr not ↦ some_stays best vs (ap (λ x. first_from x vs) (sym not.1) ∙ h)
    ]

pub first_among : (vs : List Violation) (v : Violation) → first_of vs ≡ Some v → Contains vs v
first_among [] v h = cc
first_among (best ∷ vs) v h = among_after best v vs h

pub first_least : (vs : List Violation) (v w : Violation) → first_of vs ≡ Some v → Contains vs w → comes_before w v ≡ false
first_least [] v w h there = cc
first_least (best ∷ vs) v w h there =
    elim (split best w vs there) [
      | inl is ↦ kept best v w vs h (ap (λ x. comes_before x best) (sym is) ∙ before_never best)
      | inr later ↦ each_after best v w vs h later
    ]

nothing_first : (vs : List Violation) → first_of vs ≡ None → vs ≡ []
nothing_first [] h = refl
nothing_first (best ∷ vs) h = absurd (some_stays best vs h)

pub first_none : (vs : List Violation) → (first_of vs ≡ None) ↔ (vs ≡ [])
first_none vs = (nothing_first vs, λ e. ap first_of e)
