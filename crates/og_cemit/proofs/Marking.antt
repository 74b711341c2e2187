-- Which marks are set.
use Rattle.std.proofs.Common.{◌≡◌, ℕ, zero, suc, ◌<◌, List, [], ◌∷◌, ◌++◌, Bool, true, false, ◌⊎◌, inl, inr, Some, length, replicate, slice_get, refl, sym, ap, subst, ◌∙◌, arith}
use Rattle.std.specs.List.{flat_map}
use Rattle.std.proofs.lemmas.Bool.{false≢true}
use Rattle.std.proofs.lemmas.Option.{none-some}
use Rattle.og_ir.specs.declared.Ir.{Ir}
use Rattle.og_ir.specs.declared.FlatFn.{FlatFn}
use Rattle.og_ir.specs.declared.Instr.{Instr}
use Rattle.og_cemit.specs.Marks.{is_marked, marked, all_marked}
use Rattle.og_cemit.specs.Emitted.{jumps, targets, shows, used}
use Rattle.og_names.proofs.Truths.{same_value}

-- the number stands among the numbers
abbrev pub Among : ℕ → List ℕ → Type 0
Among k [] = ⊥
Among k (j ∷ js) = (j ≡ k) ⊎ Among k js

pub among_left : (k : ℕ) (xs ys : List ℕ) → Among k xs → Among k (xs ++ ys)
among_left k [] ys h = absurd h
among_left k (x ∷ xs) ys (inl e) = inl e
among_left k (x ∷ xs) ys (inr h) = inr (among_left k xs ys h)

pub among_right : (k : ℕ) (xs ys : List ℕ) → Among k ys → Among k (xs ++ ys)
among_right k [] ys h = h
among_right k (x ∷ xs) ys h = inr (among_right k xs ys h)

pub among_each : {A : Type 0} (f : A → List ℕ) (xs : List A) (j : ℕ) (x : A) (k : ℕ) → slice_get xs j ≡ Some x → Among k (f x)
    → Among k (flat_map f xs)
among_each f [] j x k e h = absurd (none-some x e)
among_each f (y ∷ xs) zero x k e h = among_left k (f y) (flat_map f xs) (subst (λ z. Among k (f z)) (sym (same_value y x e)) h)
among_each f (y ∷ xs) (suc j) x k e h = among_right k (f y) (flat_map f xs) (among_each f xs j x k e h)

mark_kept : (j k : ℕ) (marks : List Bool) → is_marked marks k ≡ true → is_marked (marked j marks) k ≡ true
mark_kept j k [] h = h
mark_kept zero zero (m ∷ marks) h = refl
mark_kept zero (suc k) (m ∷ marks) h = h
mark_kept (suc j) zero (m ∷ marks) h = h
mark_kept (suc j) (suc k) (m ∷ marks) h = mark_kept j k marks h

mark_set : (k : ℕ) (marks : List Bool) → k < length marks → is_marked (marked k marks) k ≡ true
mark_set k [] less = absurd (omega (arith, less))
mark_set zero (m ∷ marks) less = refl
mark_set (suc k) (m ∷ marks) less = mark_set k marks (omega (arith, less))

mark_from : (j k : ℕ) (marks : List Bool) → is_marked (marked j marks) k ≡ true → (is_marked marks k ≡ true) ⊎ (j ≡ k)
mark_from j k [] h = inl h
mark_from zero zero (m ∷ marks) h = inr refl
mark_from zero (suc k) (m ∷ marks) h = inl h
mark_from (suc j) zero (m ∷ marks) h = inl h
mark_from (suc j) (suc k) (m ∷ marks) h = next (mark_from j k marks h)
  where
    next : (is_marked marks k ≡ true) ⊎ (j ≡ k) → (is_marked marks k ≡ true) ⊎ (suc j ≡ suc k)
    next (inl e) = inl e
    next (inr e) = inr (ap suc e)

mark_length : (j : ℕ) (marks : List Bool) → length (marked j marks) ≡ length marks
mark_length j [] = refl
mark_length zero (m ∷ marks) = refl
mark_length (suc j) (m ∷ marks) = ap suc (mark_length j marks)

pub all_kept : (ks : List ℕ) (marks : List Bool) (k : ℕ) → is_marked marks k ≡ true → is_marked (all_marked ks marks) k ≡ true
all_kept [] marks k h = h
all_kept (j ∷ ks) marks k h = all_kept ks (marked j marks) k (mark_kept j k marks h)

pub all_set : (ks : List ℕ) (marks : List Bool) (k : ℕ) → Among k ks → k < length marks → is_marked (all_marked ks marks) k ≡ true
all_set [] marks k h less = absurd h
all_set (j ∷ ks) marks k (inl e) less =
    all_kept ks (marked j marks) k (subst (λ n. is_marked (marked n marks) k ≡ true) (sym e) (mark_set k marks less))
all_set (j ∷ ks) marks k (inr h) less = let long = mark_length j marks in all_set ks (marked j marks) k h (omega (arith, less, long))

pub all_from : (ks : List ℕ) (marks : List Bool) (k : ℕ) → is_marked (all_marked ks marks) k ≡ true → (is_marked marks k ≡ true) ⊎ Among k ks
all_from [] marks k h = inl h
all_from (j ∷ ks) marks k h = next (all_from ks (marked j marks) k h)
  where
    here : (is_marked marks k ≡ true) ⊎ (j ≡ k) → (is_marked marks k ≡ true) ⊎ Among k (j ∷ ks)
    here (inl e) = inl e
    here (inr e) = inr (inl e)

    next : (is_marked (marked j marks) k ≡ true) ⊎ Among k ks → (is_marked marks k ≡ true) ⊎ Among k (j ∷ ks)
    next (inl e) = here (mark_from j k marks e)
    next (inr a) = inr (inr a)

pub all_length : (ks : List ℕ) (marks : List Bool) → length (all_marked ks marks) ≡ length marks
all_length [] marks = refl
all_length (k ∷ ks) marks = all_length ks (marked k marks) ∙ mark_length k marks

none_marked : (n k : ℕ) → is_marked (replicate n false) k ≡ true → ⊥
none_marked zero k h = false≢true h
none_marked (suc n) zero h = false≢true h
none_marked (suc n) (suc k) h = none_marked n k h

pub replicated : (n : ℕ) → length (replicate n false) ≡ n
replicated zero = refl
replicated (suc n) = ap suc (replicated n)

-- a place that an instruction jumps to is marked
pub target_marked : (code : List Instr) (j : ℕ) (i : Instr) (k : ℕ) → slice_get code j ≡ Some i → Among k (jumps i) → k < length code
    → is_marked (targets code) k ≡ true
unfolding targets
target_marked code j i k e h less =
    let long = replicated (length code) in
    all_set (flat_map jumps code) (replicate (length code) false) k (among_each jumps code j i k e h) (omega (arith, less, long))

-- an event that an instruction shows is marked
pub used_marked : (ir : Ir) (f : FlatFn) (n j : ℕ) (i : Instr) (k : ℕ) → slice_get ir.functions n ≡ Some f → slice_get f.code j ≡ Some i
    → Among k (shows i) → k < length ir.events → is_marked (used ir) k ≡ true
unfolding used
used_marked ir f n j i k e e' h less =
    let long = replicated (length ir.events) in
    all_set (flat_map (λ (g : FlatFn). flat_map shows g.code) ir.functions) (replicate (length ir.events) false) k
    (among_each (λ (g : FlatFn). flat_map shows g.code) ir.functions n f k e (among_each shows f.code j i k e' h)) (omega (arith, less, long))

-- an event that is marked is shown by something
pub used_shown : (ir : Ir) (k : ℕ) → is_marked (used ir) k ≡ true → Among k (flat_map (λ (g : FlatFn). flat_map shows g.code) ir.functions)
unfolding used
used_shown ir k h = only (all_from (flat_map (λ (g : FlatFn). flat_map shows g.code) ir.functions) (replicate (length ir.events) false) k h)
  where
    only : (is_marked (replicate (length ir.events) false) k ≡ true) ⊎ Among k (flat_map (λ (g : FlatFn). flat_map shows g.code) ir.functions)
        → Among k (flat_map (λ (g : FlatFn). flat_map shows g.code) ir.functions)
    only (inl e) = absurd (none_marked (length ir.events) k e)
    only (inr a) = a
