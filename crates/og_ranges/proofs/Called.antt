-- What the code on expressions keeps: the first violation so far, and whether there was none.
use Rattle.std.proofs.Common.{◌≡◌, ℕ, zero, suc, ◌+◌, ◌-◌, ◌≤◌, ◌<◌, Bool, true, false, cond, List, [], ◌∷◌, ◌++◌, length, get_or, pos, negsuc, int_le, subst, Option, Some, None, refl, sym, ap, ◌∙◌, arith}
use Rattle.std.specs.Prelude.{◌&&◌, is_some}
use Rattle.std.specs.List.{flat_map}
use Rattle.std.proofs.lemmas.Int.{ints}
use Rattle.og_names.proofs.Loops.{Left, left_first, left_more, left_all}
use Rattle.og_names.proofs.Truths.{both_first as left_of, both_second as right_of}
use Rattle.og_base.specs.declared.Place.{Place}
use Rattle.og_base.specs.declared.Violation.{Violation}
use Rattle.og_base.specs.Order.{sooner, first_from}
use Rattle.og_types.specs.Table.{is_table, is_empty}
use Rattle.og_model.specs.declared.UnaryOp.{UnaryOp}
use Rattle.og_model.specs.declared.BinaryOp.{BinaryOp}
use Rattle.og_model.specs.declared.Expr.{Expr}
use Rattle.og_model.specs.declared.Node.{out-Node}
use Rattle.og_model.specs.WellSorted.{Data}
use Rattle.og_ranges.specs.declared.Interval.{Interval}
use Rattle.og_ranges.specs.Intervals.{IsInterval}
use Rattle.og_ranges.specs.Ranges.{Range, by_sign, by_operator, where_kept, range_of_node, range_within}
use Rattle.og_ranges.specs.Laws.{IsWithin}
use Rattle.og_ranges.specs.Calls.{interval_if}
use Rattle.og_ranges.proofs.Within.{within_is}

-- ---- the first violation of lists

pub first_from_both : (best : Option Violation) (vs ws : List Violation) → first_from best (vs ++ ws) ≡ first_from (first_from best vs) ws
first_from_both best [] ws = refl
first_from_both best (v ∷ vs) ws = first_from_both (sooner best v) vs ws

pub record Noted {X : Type 0} (f : X → List Violation) (xs : List X) (i : ℕ) (now first : Option Violation) : Type 0 where
  pub left : Left (λ ys. first_from now (flat_map f ys)) xs i (first_from first (flat_map f xs))

pub noted_first : {X : Type 0} (f : X → List Violation) (xs : List X) (first : Option Violation) → Noted f xs 0 first first
noted_first f xs first = record { left = left_first (λ ys. first_from first (flat_map f ys)) xs }

pub noted_more : {X : Type 0} (f : X → List Violation) (xs : List X) (i : ℕ) (x : X) (now next first : Option Violation)
    → i < length xs → x ≡ get_or xs i x → next ≡ first_from now (f x) → Noted f xs i now first → Noted f xs (i + 1) next first
noted_more f xs i x now next first lt at is noted =
    record {
      left = left_more (λ ys. first_from now (flat_map f ys)) (λ ys. first_from next (flat_map f ys)) xs i x (first_from first (flat_map f xs)) lt at
          (λ ys. first_from_both now (f x) (flat_map f ys) ∙ ap (λ v. first_from v (flat_map f ys)) (sym is)) noted.left;
    }

pub noted_all : {X : Type 0} (f : X → List Violation) (xs : List X) (i : ℕ) (now first : Option Violation)
    → length xs ≤ i → Noted f xs i now first → now ≡ first_from first (flat_map f xs)
noted_all f xs i now first le noted = left_all (λ ys. first_from now (flat_map f ys)) xs i (first_from first (flat_map f xs)) le noted.left

-- ---- whether lists have none

empty_both : (vs ws : List Violation) → is_empty (vs ++ ws) ≡ (is_empty vs && is_empty ws)
empty_both [] ws = refl
empty_both (v ∷ vs) ws = refl

and_assoc : (a b c : Bool) → ((a && b) && c) ≡ (a && (b && c))
and_assoc true b c = refl
and_assoc false b c = refl

and_true : (a : Bool) → (a && true) ≡ a
and_true true = refl
and_true false = refl

pub record Marked {X : Type 0} (f : X → List Violation) (xs : List X) (i : ℕ) (kept : Bool) : Type 0 where
  pub left : Left (λ ys. kept && is_empty (flat_map f ys)) xs i (is_empty (flat_map f xs))

pub marked_first : {X : Type 0} (f : X → List Violation) (xs : List X) → Marked f xs 0 true
marked_first f xs = record { left = left_first (λ ys. is_empty (flat_map f ys)) xs }

pub marked_more : {X : Type 0} (f : X → List Violation) (xs : List X) (i : ℕ) (x : X) (kept next : Bool)
    → i < length xs → x ≡ get_or xs i x → next ≡ (kept && is_empty (f x)) → Marked f xs i kept → Marked f xs (i + 1) next
marked_more f xs i x kept next lt at is marked =
    record {
      left = left_more (λ ys. kept && is_empty (flat_map f ys)) (λ ys. next && is_empty (flat_map f ys)) xs i x (is_empty (flat_map f xs)) lt at
          (λ ys. ap (λ b. kept && b) (empty_both (f x) (flat_map f ys)) ∙ sym (and_assoc kept (is_empty (f x)) (is_empty (flat_map f ys))) ∙ ap (λ b. b && is_empty (flat_map f ys)) (sym is)) marked.left;
    }

pub marked_all : {X : Type 0} (f : X → List Violation) (xs : List X) (i : ℕ) (kept : Bool) → length xs ≤ i → Marked f xs i kept → kept ≡ is_empty (flat_map f xs)
marked_all f xs i kept le marked = sym (and_true kept) ∙ left_all (λ ys. kept && is_empty (flat_map f ys)) xs i (is_empty (flat_map f xs)) le marked.left

-- whether an interval is there
pub is_there : (r : Range) (o : Option Interval) → o ≡ interval_if r → is_some o ≡ is_empty r.violations
is_there r o is = ap is_some is ∙ go (is_empty r.violations)
  where
    go : (b : Bool) → is_some (cond b (Some r.interval) None) ≡ b
    go true = refl
    go false = refl

-- ---- an interval that is there

pub record IsThere (r : Range) (a : Interval) : Type 0 where
  pub none : r.violations ≡ []
  pub interval : a ≡ r.interval

pub there : (r : Range) (a : Interval) → Some a ≡ interval_if r → IsThere r a
there r a = go r.violations refl
  where
    same : (x y : Interval) → ◌≡◌ {A = Option Interval} (Some x) (Some y) → x ≡ y
    same x y e = cc

    go : (vs : List Violation) → r.violations ≡ vs → Some a ≡ cond (is_empty vs) (Some r.interval) None → IsThere r a
    go [] none e = record { none = none; interval = same a r.interval e }
    go (v ∷ vs) none e = cc

pub interval_of : (a : Interval) → IsWithin a → IsInterval a
interval_of a is = between (left_of _ _ is.within) (right_of _ _ is.within)
  where
    between : int_le (negsuc 9223372036854775807) a.lo ≡ true → int_le a.hi (pos 9223372036854775807) ≡ true → IsInterval a
    between low high = let order = is.ordered in record { least = omega (arith, ints); ordered = order; greatest = omega (arith, ints) }

pub there_within : (d : Data) (n : ℕ) (e : Expr) (a : Interval) → is_table d.types ≡ true → Some a ≡ interval_if (range_within n d e) → IsInterval a
there_within d n e a table is = subst IsInterval (sym (there (range_within n d e) a is).interval) (interval_of (range_within n d e).interval (within_is d table n e))

-- ---- under an operator

pub sign_first : (r : Range) (a : Interval) (place : Place) (op : UnaryOp) (first : Option Violation) → IsThere r a
    → first_from (first_from first r.violations) (by_sign place op a).violations ≡ first_from first (where_kept r.violations (by_sign place op r.interval)).violations
sign_first r a place op first is =
    ap (λ (vs : List Violation). first_from (first_from first vs) (by_sign place op a).violations) is.none
    ∙ ap (λ (x : Interval). first_from first (by_sign place op x).violations) is.interval
    ∙ ap (λ (vs : List Violation). first_from first (where_kept vs (by_sign place op r.interval)).violations) (sym is.none)

pub operator_first : (r s : Range) (a b : Interval) (place : Place) (op : BinaryOp) (first : Option Violation) → IsThere r a → IsThere s b
    → first_from (first_from (first_from first r.violations) s.violations) (by_operator place op a b).violations ≡ first_from first (where_kept (r.violations ++ s.violations) (by_operator place op r.interval s.interval)).violations
operator_first r s a b place op first left right =
    ap (λ (vs : List Violation). first_from (first_from (first_from first vs) s.violations) (by_operator place op a b).violations) left.none
    ∙ ap (λ (vs : List Violation). first_from (first_from first vs) (by_operator place op a b).violations) right.none
    ∙ ap (λ (x : Interval). first_from first (by_operator place op x b).violations) left.interval
    ∙ ap (λ (x : Interval). first_from first (by_operator place op r.interval x).violations) right.interval
    ∙ ap (λ (vs : List Violation). first_from first (where_kept (vs ++ []) (by_operator place op r.interval s.interval)).violations) (sym left.none)
    ∙ ap (λ (vs : List Violation). first_from first (where_kept (r.violations ++ vs) (by_operator place op r.interval s.interval)).violations) (sym right.none)

-- the left operand has no interval
pub broken_first : (r : Range) (ws : List Violation) (whole : Range) (first : Option Violation) → None ≡ interval_if r
    → first_from (first_from first r.violations) ws ≡ first_from first (where_kept (r.violations ++ ws) whole).violations
broken_first r ws whole first is = go r.violations is
  where
    go : (vs : List Violation) → None ≡ cond (is_empty vs) (Some r.interval) None → first_from (first_from first vs) ws ≡ first_from first (where_kept (vs ++ ws) whole).violations
    go [] e = cc
    go (v ∷ vs) e = sym (first_from_both first (v ∷ vs) ws)

pub one_layer : (n : ℕ) (d : Data) (e : Expr) → (n ≡ 0 → ⊥) → range_within n d e ≡ range_of_node (range_within (n - 1) d) d e.place (out-Node e.node)
one_layer zero d e some = absurd (some refl)
one_layer (suc n) d e some = ap (λ (k : ℕ). range_of_node (range_within k d) d e.place (out-Node e.node)) (less_one n)
  where
    less_one : (n : ℕ) → n ≡ suc n - 1
    less_one n = omega arith

pub ruleset calls = (noted_first, noted_more, noted_all, marked_first, marked_more, marked_all, is_there, there_within)
