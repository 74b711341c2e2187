-- Lists that keep what a function says of each place, and where ways kept so lead.
use Rattle.std.proofs.Common.{◌≡◌, ℕ, zero, suc, ◌+◌, ◌≤◌, ◌<◌, List, [], ◌∷◌, ◌++◌, length, slice_get, Option, Some, None, unwrap_or, refl, sym, ap, ◌∙◌, arith, length-append, ◌⊎◌, inl, inr, map}
use Rattle.std.specs.Option.{option_map}
use Rattle.std.proofs.lemmas.Option.{slice_get-map}
use Rattle.std.specs.List.{range_with_len}
use Rattle.std.proofs.lemmas.List.FromFn.{map-range_with_len_more}
use Rattle.og_dataview.specs.Following.{walk}
use Rattle.og_dataview.specs.Ways.{step_in, Leads}

-- ---- lists by places

pub record Tabulated {X : Type 0} (f : ℕ → X) (xs : List X) (n : ℕ) : Type 0 where
  pub long : length xs ≡ n
  pub each : (p : ℕ) → p < n → slice_get xs p ≡ Some (f p)

pub tabulated_none : {X : Type 0} (f : ℕ → X) → Tabulated f [] 0
tabulated_none f = record { long = refl; each = λ p lt. absurd (omega arith) }

front : {X : Type 0} (xs : List X) (x : X) (p : ℕ) → p < length xs → slice_get (xs ++ x ∷ []) p ≡ slice_get xs p
front [] x p lt = absurd (omega arith)
front (y ∷ ys) x zero lt = refl
front (y ∷ ys) x (suc p) lt = front ys x p (omega arith)

last : {X : Type 0} (xs : List X) (x : X) (p : ℕ) → p ≡ length xs → slice_get (xs ++ x ∷ []) p ≡ Some x
last [] x p e = rw e refl
last (y ∷ ys) x zero e = absurd (omega arith)
last (y ∷ ys) x (suc p) e = last ys x p (omega arith)

-- behind the end there is nothing
pub none_behind : {X : Type 0} (xs : List X) (p : ℕ) → length xs ≤ p → slice_get xs p ≡ None
none_behind [] p le = refl
none_behind (y ∷ ys) zero le = absurd (omega arith)
none_behind (y ∷ ys) (suc p) le = none_behind ys p (omega arith)

below_or_not : (p n : ℕ) → (p < n) ⊎ (n ≤ p)
below_or_not p zero = inr (omega arith)
below_or_not zero (suc n) = inl (omega arith)
below_or_not (suc p) (suc n) = elim (below_or_not p n) [ inl lt ↦ inl (omega (arith, lt)) | inr le ↦ inr (omega (arith, le)) ]

pub tabulated_more : {X : Type 0} (f : ℕ → X) (xs ys : List X) (n : ℕ) (x : X) → ys ≡ xs ++ x ∷ [] → x ≡ f n → Tabulated f xs n → Tabulated f ys (n + 1)
tabulated_more f xs ys n x e is before = record {
  long = ap length e ∙ length-append xs (x ∷ []) ∙ omega (arith, before.long);
  each = λ p lt. ap (λ zs. slice_get zs p) e ∙ by p (below_or_not p n) lt;
}
  where
    by : (p : ℕ) → (p < n) ⊎ (n ≤ p) → p < n + 1 → slice_get (xs ++ x ∷ []) p ≡ Some (f p)
    by p (inl lt) below = front xs x p (omega (arith, lt, before.long)) ∙ before.each p lt
    by p (inr le) below =
        let same : p ≡ n = omega arith in
        last xs x p (omega (arith, same, before.long)) ∙ ap Some is ∙ ap (λ m. Some (f m)) (sym same)

-- a list of places leads where the function does
pub steps_are : (f : ℕ → ℕ) (xs : List ℕ) (n : ℕ) → Tabulated f xs n → ((p : ℕ) → n ≤ p → f p ≡ p) → (p : ℕ) → step_in xs p ≡ f p
steps_are f xs n tabulated out p = by (below_or_not p n)
  where
    by : (p < n) ⊎ (n ≤ p) → step_in xs p ≡ f p
    by (inl lt) = ap (λ o. unwrap_or o p) (tabulated.each p lt)
    by (inr le) = ap (λ o. unwrap_or o p) (none_behind xs p (omega (arith, le, tabulated.long))) ∙ sym (out p le)

-- ---- ways

pub walk_by : (next : ℕ → ℕ) (m n p : ℕ) → m ≡ n → walk next m p ≡ walk next n p
walk_by next m n p e = ap (λ k. walk next k p) e

pub walk_on : (next : ℕ → ℕ) (a b p : ℕ) → walk next (a + b) p ≡ walk next b (walk next a p)
walk_on next zero b p = walk_by next (0 + b) b p (omega arith)
walk_on next (suc a) b p = walk_by next (suc a + b) (suc (a + b)) p (omega arith) ∙ walk_on next a b (next p)

pub walks_none : (next : ℕ → ℕ) (steps : ℕ) (list : List ℕ) → steps ≡ 0 → ((p : ℕ) → step_in list p ≡ p) → Leads next steps list
walks_none next steps list e each = record { each = λ p. each p ∙ walk_by next 0 steps p (sym e) }

pub walks_even : (next : ℕ → ℕ) (steps half : ℕ) (list twice : List ℕ) → steps ≡ half + half → Leads next half list
    → ((p : ℕ) → step_in twice p ≡ step_in list (step_in list p)) → Leads next steps twice
walks_even next steps half list twice e leads each = record {
  each = λ p. each p ∙ ap (step_in list) (leads.each p) ∙ leads.each (walk next half p) ∙ sym (walk_on next half half p) ∙ walk_by next (half + half) steps p (sym e);
}

pub walks_odd : (steps half : ℕ) (nexts list twice all : List ℕ) → steps ≡ half + half + 1 → Leads (step_in nexts) half list
    → ((p : ℕ) → step_in twice p ≡ step_in list (step_in list p)) → ((p : ℕ) → step_in all p ≡ step_in nexts (step_in twice p)) → Leads (step_in nexts) steps all
walks_odd steps half nexts list twice all e leads each then = record {
  each = λ p. then p ∙ ap (step_in nexts) ((walks_even (step_in nexts) (half + half) half list twice refl leads each).each p)
      ∙ sym (walk_on (step_in nexts) (half + half) 1 p) ∙ walk_by (step_in nexts) (half + half + 1) steps p (sym e);
}

-- the same steps lead the same way
pub walk_same : (next next' : ℕ → ℕ) → ((p : ℕ) → next p ≡ next' p) → (n p : ℕ) → walk next n p ≡ walk next' n p
walk_same next next' h zero p = refl
walk_same next next' h (suc n) p = ap (walk next n) (h p) ∙ walk_same next next' h n (next' p)

pub leads_by : (next : ℕ → ℕ) (n steps : ℕ) (nexts list : List ℕ) → n ≡ steps → ((p : ℕ) → step_in nexts p ≡ next p) → Leads (step_in nexts) n list → Leads next steps list
leads_by next n steps nexts list e h leads = record { each = λ p. leads.each p ∙ walk_same (step_in nexts) next h n p ∙ walk_by next n steps p e }

-- each place leads to itself
pub stands : (list : List ℕ) (n p : ℕ) → Tabulated (λ q. q) list n → step_in list p ≡ p
stands list n p tabulated = steps_are (λ q. q) list n tabulated (λ q le. refl) p

behind : (xs : List ℕ) (q : ℕ) → slice_get xs q ≡ None → length xs ≤ q
behind [] q e = omega arith
behind (x ∷ xs) zero e = cc
behind (x ∷ xs) (suc q) e = omega (arith, behind xs q e)

-- by the first list, and then by the second one
pub goes_then : (first second list : List ℕ) (p : ℕ) → list ≡ map (step_in second) first → length first ≡ length second → step_in list p ≡ step_in second (step_in first p)
goes_then first second list p is same =
    ap (λ xs. step_in xs p) is ∙ ap (λ o. unwrap_or o p) (slice_get-map (step_in second) first p) ∙ by (slice_get first p) refl
  where
    by : (o : Option ℕ) → slice_get first p ≡ o → unwrap_or (option_map (step_in second) o) p ≡ step_in second (unwrap_or o p)
    by (Some q) e = refl
    by None e = sym (ap (λ o. unwrap_or o p) (none_behind second p (omega (arith, behind first p e, same))))

-- a list by places with one place more
pub mapped_more : {X : Type 0} (f : ℕ → X) (xs ys : List X) (n : ℕ) (x : X) → ys ≡ xs ++ x ∷ [] → x ≡ f n → xs ≡ map f (range_with_len 0 n) → ys ≡ map f (range_with_len 0 (n + 1))
mapped_more f xs ys n x e is before = e ∙ (λ i. before i ++ is i ∷ []) ∙ sym (map-range_with_len_more f 0 n n (omega arith))

pub ruleset walks = (walks_none, walks_even, walks_odd, leads_by)

pub ruleset tables = (tabulated_none, tabulated_more, steps_are, stands, goes_then, mapped_more)
