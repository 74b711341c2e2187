-- Code that goes onward: stretches that are put together, and what a single instruction does.
use Rattle.std.proofs.Common.{◌≡◌, ℕ, zero, suc, ◌+◌, ◌≤◌, List, [], ◌∷◌, ◌++◌, length, Option, Some, refl, sym, ap, subst, arith}
use Rattle.og_ir.specs.declared.Instr.{Instr}
use Rattle.og_ir.specs.declared.Instr.TheVariants as instr
use Rattle.og_ir.specs.Cells.{Cells, global, change_global}
use Rattle.og_ir.specs.Arithmetic.{in_64_bits}
use Rattle.og_ir.specs.FlatSteps.{flat_step, act}
use Rattle.og_expr.specs.Giving.{Where, at_place, Leads, Onward, StandsAt, IsCode}

-- ---- stretches

pub goes_on : {E : Type 0} (w : Where E) (m n t : ℕ) (a b c : List Cells) (p q r : ℕ) → t ≡ m + n → Onward w m a p b q → Onward w n b q c r → Onward w t a p c r
goes_on w zero n t a b c p q r all first second =
    subst (λ (k : ℕ). Onward w k a p c r) (none n t all)
    (subst (λ (s : List Cells). Onward w n s p c r) (sym first.0) (subst (λ (k : ℕ). Onward w n b k c r) (sym first.1) second))
  where
    none : (n t : ℕ) → t ≡ 0 + n → n ≡ t
    none n t e = omega (arith, e)
goes_on w (suc m) n zero a b c p q r all first second = absurd (never m n all)
  where
    never : (m n : ℕ) → 0 ≡ suc m + n → ⊥
    never m n e = omega (arith, e)
goes_on w (suc m) n (suc t) a b c p q r all (next, k, leads, later, more) second =
    (next, k, leads, later, goes_on w m n t next b c k q r (less m n t all) more second)
  where
    less : (m n t : ℕ) → suc t ≡ suc m + n → t ≡ m + n
    less m n t e = omega (arith, e)

-- a stretch does not lead back
pub not_back : {E : Type 0} (w : Where E) (n : ℕ) (a b : List Cells) (p q : ℕ) → Onward w n a p b q → n + p ≤ q
not_back w zero a b p q goes = let e = goes.1 in omega (arith, e)
not_back w (suc n) a b p q (next, k, leads, later, more) = let h = not_back w n next b k q more in omega (arith, h, later)

-- ---- code in its parts

pub first_part : (code : List Instr) (at : ℕ) (xs ys : List Instr) → StandsAt code at (xs ++ ys) → StandsAt code at xs
first_part code at [] ys stands = tt
first_part code at (x ∷ xs) ys stands = (stands.0, first_part code (at + 1) xs ys stands.1)

pub second_part : (code : List Instr) (at : ℕ) (xs ys : List Instr) → StandsAt code at (xs ++ ys) → StandsAt code (at + length xs) ys
second_part code at [] ys stands = subst (λ (k : ℕ). StandsAt code k ys) (same at) stands
  where
    same : (n : ℕ) → n ≡ n + 0
    same n = omega arith
second_part code at (x ∷ xs) ys stands = subst (λ (k : ℕ). StandsAt code k ys) (moved at (length xs)) (second_part code (at + 1) xs ys stands.1)
  where
    moved : (n m : ℕ) → n + 1 + m ≡ n + suc m
    moved n m = omega arith

-- ---- slots

pub changed_here : (k : ℕ) (f : Cells → Cells) (slots : List Cells) (old : Cells) → global k slots ≡ Some old → global k (change_global k f slots) ≡ Some (f old)
changed_here k f [] old at = cc at
changed_here zero f (c ∷ slots) old at = ap (λ (x : Cells). Some (f x)) (same c old at)
  where
    same : (x y : Cells) → ◌≡◌ {A = Option Cells} (Some x) (Some y) → x ≡ y
    same x y e = cc
changed_here (suc k) f (c ∷ slots) old at = changed_here k f slots old at

pub kept_elsewhere : (k j : ℕ) (f : Cells → Cells) (slots : List Cells) → (j ≡ k → ⊥) → global j (change_global k f slots) ≡ global j slots
kept_elsewhere k j f [] other = refl
kept_elsewhere zero zero f (c ∷ slots) other = absurd (other refl)
kept_elsewhere zero (suc j) f (c ∷ slots) other = refl
kept_elsewhere (suc k) zero f (c ∷ slots) other = refl
kept_elsewhere (suc k) (suc j) f (c ∷ slots) other = kept_elsewhere k j f slots (λ e. other (ap suc e))

pub as_many : (k : ℕ) (f : Cells → Cells) (slots : List Cells) → length (change_global k f slots) ≡ length slots
as_many k f [] = refl
as_many zero f (c ∷ slots) = refl
as_many (suc k) f (c ∷ slots) = ap suc (as_many k f slots)

-- ---- single instructions

-- the step at a place is that of the instruction there
fetched_at : {E : Type 0} (w : Where E) (place : ℕ) (i : Instr) (slots : List Cells) → IsCode w place (i ∷ [])
    → flat_step w.shows in_64_bits w.ir (at_place w slots place) ≡ act w.shows in_64_bits slots (record { function = w.function; place = place }) w.callers i
fetched_at w place i slots code = cc (code.there, code.stands.0)

pub goto_leads : {E : Type 0} (w : Where E) (place to : ℕ) (slots : List Cells) → IsCode w place (instr.Goto to ∷ []) → Leads w slots place slots to
goto_leads w place to slots code = fetched_at w place (instr.Goto to) slots code
