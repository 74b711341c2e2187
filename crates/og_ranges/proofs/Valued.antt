-- A value of an integer expression lies in the expression's interval.
use Rattle.std.proofs.Common.{◌≡◌, ℕ, zero, suc, Bool, true, false, cond, List, [], ◌∷◌, ◌++◌, length, map, slice_get, Option, Some, None, refl, sym, subst, ◌∙◌, arith, ◌≤◌, ℤ, pos, ◌≤ℤ◌, int_lt, int_le, Result, Ok, Err}
use Rattle.std.specs.Prelude.{◌&&◌, nat_le}
use Rattle.std.proofs.lemmas.Int.{ints}
use Rattle.std.proofs.lemmas.Bool.{leb-true}
use Rattle.og_names.proofs.Truths.{both_first as left_of, both_second as right_of}
use Rattle.og_base.specs.declared.Place.{Place}
use Rattle.og_base.specs.declared.Rule.TheVariants.{G1, G5}
use Rattle.og_base.specs.declared.Violation.{Violation}
use Rattle.og_types.specs.declared.TypeId.{TypeId}
use Rattle.og_types.specs.declared.Sort.{Sort}
use Rattle.og_types.specs.declared.Sort.TheVariants as Sorts
use Rattle.og_types.specs.declared.Value.{Value, Value-F, out-Value}
use Rattle.og_types.specs.declared.Value.TheOpen as Open
use Rattle.og_model.specs.declared.FaultKind.{FaultKind}
use Rattle.og_model.specs.declared.UnaryOp.TheVariants.{Minus, Not}
use Rattle.og_model.specs.declared.BinaryOp.{BinaryOp}
use Rattle.og_model.specs.declared.BinaryOp.TheVariants as Ops
use Rattle.og_model.specs.declared.ExprSort.{ExprSort}
use Rattle.og_model.specs.declared.ExprSort.TheVariants.{Int, Bool as Truths, Typed, Kind}
use Rattle.og_model.specs.declared.Target.{Target}
use Rattle.og_model.specs.declared.Select.{Select, out-Select}
use Rattle.og_model.specs.declared.Expr.{Expr}
use Rattle.og_model.specs.declared.Node.{Node, Node-F, out-Node}
use Rattle.og_model.specs.declared.Node.TheOpen as Nodes
use Rattle.og_model.specs.Expressions.{Frame, Store, Walked, location_of, read, number_in, number_of, items_in, items_of, on_value, as_number, apply, unary, walk_by, eval_node, eval, sort_at}
use Rattle.og_model.specs.WellSorted.{Data, sort_from, same_sort, sort_of_variable, type_of, hop_of, leads_to, can_be_equal, is_alternative, is_sequence_of_items, is_length, is_present, is_node, is_place, is_sorted_within}
use Rattle.og_model.proofs.Depth.{eval_is}
use Rattle.og_ranges.specs.declared.Interval.{Interval}
use Rattle.og_ranges.specs.Intervals.{LiesIn, sum_of, difference_of, negative_of, product_of, quotient_of, modulus_of, remainder_of}
use Rattle.og_ranges.specs.Ranges.{Range, point, is_within_64_bits, tested, violates, divided, where_kept, bounds_of, lengths_of, sort_numbered, range_of_node, range_within, range_of}
use Rattle.og_ranges.specs.Laws.{HoldsValues, ValuesLieInTheirIntervals}
use Rattle.og_ranges.proofs.Holding.{given, sums_hold, differences_hold, signs_hold, products_hold, quotients_hold, moduli_hold, rests_hold}
use Rattle.og_ranges.proofs.Walking.{Fits, FitsSort, opened, nowhere, walk_fits}

same_sorts : (s : ExprSort) → same_sort s Int ≡ true → s ≡ Int
same_sorts Int is = refl
same_sorts Truths is = cc
same_sorts (Typed id) is = cc
same_sorts (Kind id) is = cc

same_ok : (v w : Value) → ◌≡◌ {A = Result Value FaultKind} (Ok v) (Ok w) → v ≡ w
same_ok v w e = cc

-- ---- what violates nothing

tested_is : (place : Place) (a : Interval) (x : ℤ) → (tested place a).violations ≡ [] → LiesIn x a → LiesIn x (tested place a).interval
tested_is place a x = go (is_within_64_bits a)
  where
    go : (t : Bool) → (cond t (record { interval = a; violations = [] }) (violates G1 place)).violations ≡ [] → LiesIn x a → LiesIn x (cond t (record { interval = a; violations = [] }) (violates G1 place)).interval
    go true none h = h
    go false none h = cc

divided_is : (place : Place) (b a : Interval) (x : ℤ) → (divided place b a).violations ≡ [] → (pos 0 ≤ℤ b.lo → LiesIn x a) → LiesIn x (divided place b a).interval
divided_is place b a x = go (int_lt b.lo (pos 0)) refl
  where
    go : (t : Bool) → int_lt b.lo (pos 0) ≡ t → (cond t (violates G5 place) (tested place a)).violations ≡ [] → (pos 0 ≤ℤ b.lo → LiesIn x a) → LiesIn x (cond t (violates G5 place) (tested place a)).interval
    go true e none h = cc
    go false e none h = tested_is place a x none (h (omega (arith, ints)))

kept_is : (vs : List Violation) (whole : Range) (x : ℤ) → (where_kept vs whole).violations ≡ [] → (vs ≡ [] → whole.violations ≡ [] → LiesIn x whole.interval) → LiesIn x (where_kept vs whole).interval
kept_is [] whole x none h = h refl none
kept_is (v ∷ vs) whole x none h = cc

first_empty : (xs ys : List Violation) → xs ++ ys ≡ [] → xs ≡ []
first_empty [] ys e = refl
first_empty (x ∷ xs) ys e = cc

second_empty : (xs ys : List Violation) → xs ++ ys ≡ [] → ys ≡ []
second_empty [] ys e = e
second_empty (x ∷ xs) ys e = cc

third_of_three : (p q r : Bool) → (p && (q && r)) ≡ true → r ≡ true
third_of_three p q r is = right_of q r (right_of p (q && r) is)

second_of_three : (p q r : Bool) → (p && (q && r)) ≡ true → q ≡ true
second_of_three p q r is = left_of q r (right_of p (q && r) is)

third_of : (p q r a c : Bool) → (p && (q && (r && (a && c)))) ≡ true → r ≡ true
third_of p q r a c is = left_of r (a && c) (third_of_three p q (r && (a && c)) is)

fourth_of : (p q r a c : Bool) → (p && (q && (r && (a && c)))) ≡ true → a ≡ true
fourth_of p q r a c is = second_of_three r a c (third_of_three p q (r && (a && c)) is)

fifth_of : (p q r a c : Bool) → (p && (q && (r && (a && c)))) ≡ true → c ≡ true
fifth_of p q r a c is = third_of_three r a c (third_of_three p q (r && (a && c)) is)

last_of : (p q r a c f : Bool) → (p && (q && (r && (a && (c && f))))) ≡ true → f ≡ true
last_of p q r a c f is = right_of c f (fifth_of p q r a (c && f) is)

-- ---- operators

-- a value that a result has, where it has one, lies in an interval
abbrev Gives : Result Value FaultKind → Interval → Type 0
Gives r a = (v : Value) → r ≡ Ok v → LiesIn (number_of v) a

both_give : (op : BinaryOp) (a b c : Interval) → ((x y v : Value) → LiesIn (number_of x) a → LiesIn (number_of y) b → apply op x y ≡ Ok v → LiesIn (number_of v) c)
    → (r s : Result Value FaultKind) → Gives r a → Gives s b → Gives (on_value r (λ x. on_value s (λ y. apply op x y))) c
both_give op a b c gives (Err kind) s left right v e = cc
both_give op a b c gives (Ok x) (Err kind) left right v e = cc
both_give op a b c gives (Ok x) (Ok y) left right v e = gives x y v (left x refl) (right y refl) e

sign_gives : (a : Interval) (r : Result Value FaultKind) → Gives r a → Gives (on_value r (unary Minus)) (negative_of a)
sign_gives a (Err kind) inner v e = cc
sign_gives a (Ok x) inner v e = signs_hold a x v (inner x refl) e

-- ---- variables

in_bounds : (types : List Sort) (t : Option Sort) (o : Value-F Value) → FitsSort types t o → (id : TypeId) → same_sort (sort_from id t) Int ≡ true → LiesIn (number_in o) (bounds_of t)
in_bounds types (Some (Sorts.Int lo hi)) (Open.Int z) fits id is = between (left_of _ _ fits.is) (right_of _ _ fits.is)
  where
    between : int_le lo z ≡ true → int_le z hi ≡ true → LiesIn z (record { lo = lo; hi = hi })
    between le ge = record { not_below = omega (arith, ints); not_above = omega (arith, ints) }
in_bounds types (Some (Sorts.Int lo hi)) (Open.Bool b) fits id is = cc (fits.is)
in_bounds types (Some (Sorts.Int lo hi)) (Open.Enumerated k) fits id is = cc (fits.is)
in_bounds types (Some (Sorts.Int lo hi)) (Open.Sequence vs) fits id is = cc (fits.is)
in_bounds types (Some (Sorts.Int lo hi)) (Open.SeqOf vs) fits id is = cc (fits.is)
in_bounds types (Some (Sorts.Int lo hi)) (Open.Choice k v) fits id is = cc (fits.is)
in_bounds types (Some Sorts.Bool) o fits id is = cc
in_bounds types (Some (Sorts.Enumerated names numbers)) o fits id is = cc
in_bounds types (Some (Sorts.Sequence parts)) o fits id is = cc
in_bounds types (Some (Sorts.Choice parts)) o fits id is = cc
in_bounds types (Some (Sorts.SeqOf lo hi item)) o fits id is = cc
in_bounds types (Some Sorts.Opaque) o fits id is = cc
in_bounds types None o fits id is = cc

in_lengths : (types : List Sort) (t : Option Sort) (o : Value-F Value) → FitsSort types t o → is_sequence_of_items t ≡ true → LiesIn (pos (length (items_in o))) (lengths_of t)
in_lengths types (Some (Sorts.SeqOf lo hi item)) (Open.SeqOf vs) fits is = between (left_of _ _ fits.is) (second_of_three _ _ _ fits.is)
  where
    between : nat_le lo (length vs) ≡ true → nat_le (length vs) hi ≡ true → LiesIn (pos (length vs)) (record { lo = pos lo; hi = pos hi })
    between le ge = by_order (leb-true lo (length vs) le) (leb-true (length vs) hi ge)
      where
        by_order : lo ≤ length vs → length vs ≤ hi → LiesIn (pos (length vs)) (record { lo = pos lo; hi = pos hi })
        by_order l g = record { not_below = omega (arith, ints, l); not_above = omega (arith, ints, g) }
in_lengths types (Some (Sorts.SeqOf lo hi item)) (Open.Int z) fits is = cc (fits.is)
in_lengths types (Some (Sorts.SeqOf lo hi item)) (Open.Bool b) fits is = cc (fits.is)
in_lengths types (Some (Sorts.SeqOf lo hi item)) (Open.Enumerated k) fits is = cc (fits.is)
in_lengths types (Some (Sorts.SeqOf lo hi item)) (Open.Sequence vs) fits is = cc (fits.is)
in_lengths types (Some (Sorts.SeqOf lo hi item)) (Open.Choice k v) fits is = cc (fits.is)
in_lengths types (Some (Sorts.Int lo hi)) o fits is = cc
in_lengths types (Some Sorts.Bool) o fits is = cc
in_lengths types (Some (Sorts.Enumerated names numbers)) o fits is = cc
in_lengths types (Some (Sorts.Sequence parts)) o fits is = cc
in_lengths types (Some (Sorts.Choice parts)) o fits is = cc
in_lengths types (Some Sorts.Opaque) o fits is = cc
in_lengths types None o fits is = cc

-- ---- expressions

module _ (d : Data) (b : Frame) (s : Store) (holds : HoldsValues d b s) where
  -- where a target leads, it leads to a value of its type
  target_fits : (worth : Expr → Result Value FaultKind) (t : Target) (id : TypeId) (w : Walked) → type_of d t ≡ Some id → walk_by worth b s t ≡ Ok w → Fits d.types id w.value
  target_fits worth t id w is leads = go (sort_of_variable d t.variable) refl is
    where
      go : (o : Option TypeId) → sort_of_variable d t.variable ≡ o → sort_at d.types o (map (λ (x : Select). hop_of (out-Select x)) t.path) ≡ Some id → Fits d.types id w.value
      go None at on = cc (nowhere d.types (map (λ (x : Select). hop_of (out-Select x)) t.path), on)
      go (Some from) at on = walk_fits d.types worth t.path from id (read s (location_of b t.variable)) w (record { depth = suc from.0; is = holds.each t.variable from at }) on leads

  got : (worth : Expr → Result Value FaultKind) (t : Target) (o : Option TypeId) → type_of d t ≡ o → leads_to d.types Int o ≡ true → Gives (on_value (walk_by worth b s t) (λ w. Ok w.value)) (bounds_of (sort_numbered d.types o))
  got worth t None at is v e = cc
  got worth t (Some id) at is v e = by_walk (walk_by worth b s t) refl e
    where
      by_walk : (r : Result Walked FaultKind) → walk_by worth b s t ≡ r → on_value r (λ w. Ok w.value) ≡ Ok v → LiesIn (number_of v) (bounds_of (slice_get d.types id.0))
      by_walk (Err kind) leads f = cc
      by_walk (Ok w) leads f =
          subst (λ (u : Value). LiesIn (number_of u) (bounds_of (slice_get d.types id.0))) (same_ok w.value v f)
          (in_bounds d.types (slice_get d.types id.0) (out-Value w.value) (opened d.types id w.value (target_fits worth t id w at leads)) id is)

  counted : (worth : Expr → Result Value FaultKind) (t : Target) (o : Option TypeId) → type_of d t ≡ o → is_length d.types o Int ≡ true → Gives (on_value (walk_by worth b s t) (λ w. as_number (pos (length (items_of w.value))))) (lengths_of (sort_numbered d.types o))
  counted worth t None at is v e = cc
  counted worth t (Some id) at is v e = by_walk (walk_by worth b s t) refl e
    where
      by_walk : (r : Result Walked FaultKind) → walk_by worth b s t ≡ r → on_value r (λ w. as_number (pos (length (items_of w.value)))) ≡ Ok v → LiesIn (number_of v) (lengths_of (slice_get d.types id.0))
      by_walk (Err kind) leads f = cc
      by_walk (Ok w) leads f =
          given (lengths_of (slice_get d.types id.0)) (pos (length (items_of w.value))) v f
          (in_lengths d.types (slice_get d.types id.0) (out-Value w.value) (opened d.types id w.value (target_fits worth t id w at leads)) (left_of _ _ is))

  abbrev LieWithin : ℕ → Type 0
  LieWithin n = (e : Expr) → is_sorted_within n d e ≡ true → e.sort ≡ Int → (range_within n d e).violations ≡ [] → Gives (eval b s e) (range_within n d e).interval

  -- two numbers under an operator
  under : (n : ℕ) → LieWithin n → (op : BinaryOp) (x y : Expr)
      → (is_sorted_within n d x && (is_sorted_within n d y && (same_sort x.sort Int && (same_sort y.sort Int && same_sort Int Int)))) ≡ true
      → (whole : Range)
      → (whole.violations ≡ [] → (p q v : Value) → LiesIn (number_of p) (range_within n d x).interval → LiesIn (number_of q) (range_within n d y).interval → apply op p q ≡ Ok v → LiesIn (number_of v) whole.interval)
      → (where_kept ((range_within n d x).violations ++ (range_within n d y).violations) whole).violations ≡ []
      → Gives (on_value (eval b s x) (λ p. on_value (eval b s y) (λ q. apply op p q))) (where_kept ((range_within n d x).violations ++ (range_within n d y).violations) whole).interval
  under n lie op x y sorted whole gives none v e =
      kept_is ((range_within n d x).violations ++ (range_within n d y).violations) whole (number_of v) none (λ empty kept.
      both_give op (range_within n d x).interval (range_within n d y).interval whole.interval (gives kept) (eval b s x) (eval b s y)
      (lie x (left_of _ _ sorted) (same_sorts x.sort (third_of (is_sorted_within n d x) (is_sorted_within n d y) (same_sort x.sort Int) (same_sort y.sort Int) true sorted)) (first_empty (range_within n d x).violations (range_within n d y).violations empty))
      (lie y (second_of_three (is_sorted_within n d x) (is_sorted_within n d y) (same_sort x.sort Int && (same_sort y.sort Int && true)) sorted) (same_sorts y.sort (fourth_of (is_sorted_within n d x) (is_sorted_within n d y) (same_sort x.sort Int) (same_sort y.sort Int) true sorted)) (second_empty (range_within n d x).violations (range_within n d y).violations empty))
      v e)

  -- a number with the other sign
  signed : (n : ℕ) → LieWithin n → (place : Place) (x : Expr) → (is_sorted_within n d x && (same_sort x.sort Int && same_sort Int Int)) ≡ true
      → (where_kept (range_within n d x).violations (tested place (negative_of (range_within n d x).interval))).violations ≡ []
      → Gives (on_value (eval b s x) (unary Minus)) (where_kept (range_within n d x).violations (tested place (negative_of (range_within n d x).interval))).interval
  signed n lie place x sorted none v e =
      kept_is (range_within n d x).violations (tested place (negative_of (range_within n d x).interval)) (number_of v) none (λ empty kept.
      tested_is place (negative_of (range_within n d x).interval) (number_of v) kept
      (sign_gives (range_within n d x).interval (eval b s x) (lie x (left_of _ _ sorted) (same_sorts x.sort (second_of_three (is_sorted_within n d x) (same_sort x.sort Int) true sorted)) empty) v e))

  abbrev NodeLies : (n : ℕ) (place : Place) → Node-F Node Select Expr Target → Type 0
  NodeLies n place o = is_node (is_sorted_within n d) d Int o ≡ true → (range_of_node (range_within n d) d place o).violations ≡ [] → Gives (eval_node (eval b s) b s o) (range_of_node (range_within n d) d place o).interval

  binary_lies : (n : ℕ) → LieWithin n → (place : Place) (op : BinaryOp) (x y : Expr) → NodeLies n place (Nodes.Binary op x y)
  binary_lies n lie place Ops.Add x y sorted none v e = under n lie Ops.Add x y sorted (tested place (sum_of (range_within n d x).interval (range_within n d y).interval))
      (λ kept p q u h k f. tested_is place (sum_of (range_within n d x).interval (range_within n d y).interval) (number_of u) kept (sums_hold (range_within n d x).interval (range_within n d y).interval p q u h k f)) none v e
  binary_lies n lie place Ops.Sub x y sorted none v e = under n lie Ops.Sub x y sorted (tested place (difference_of (range_within n d x).interval (range_within n d y).interval))
      (λ kept p q u h k f. tested_is place (difference_of (range_within n d x).interval (range_within n d y).interval) (number_of u) kept (differences_hold (range_within n d x).interval (range_within n d y).interval p q u h k f)) none v e
  binary_lies n lie place Ops.Mul x y sorted none v e = under n lie Ops.Mul x y sorted (tested place (product_of (range_within n d x).interval (range_within n d y).interval))
      (λ kept p q u h k f. tested_is place (product_of (range_within n d x).interval (range_within n d y).interval) (number_of u) kept (products_hold (range_within n d x).interval (range_within n d y).interval p q u h k f)) none v e
  binary_lies n lie place Ops.Div x y sorted none v e = under n lie Ops.Div x y sorted (tested place (quotient_of (range_within n d x).interval (range_within n d y).interval))
      (λ kept p q u h k f. tested_is place (quotient_of (range_within n d x).interval (range_within n d y).interval) (number_of u) kept (quotients_hold (range_within n d x).interval (range_within n d y).interval p q u h k f)) none v e
  binary_lies n lie place Ops.Mod x y sorted none v e = under n lie Ops.Mod x y sorted (divided place (range_within n d y).interval (modulus_of (range_within n d x).interval (range_within n d y).interval))
      (λ kept p q u h k f. divided_is place (range_within n d y).interval (modulus_of (range_within n d x).interval (range_within n d y).interval) (number_of u) kept (λ least. moduli_hold (range_within n d x).interval (range_within n d y).interval p q u least h k f)) none v e
  binary_lies n lie place Ops.Rem x y sorted none v e = under n lie Ops.Rem x y sorted (divided place (range_within n d y).interval (remainder_of (range_within n d x).interval (range_within n d y).interval))
      (λ kept p q u h k f. divided_is place (range_within n d y).interval (remainder_of (range_within n d x).interval (range_within n d y).interval) (number_of u) kept (λ least. rests_hold (range_within n d x).interval (range_within n d y).interval p q u least h k f)) none v e
  binary_lies n lie place Ops.Eq x y sorted none v e = cc (last_of (is_sorted_within n d x) (is_sorted_within n d y) (can_be_equal d.types x.sort) (same_sort x.sort x.sort) (same_sort y.sort x.sort) false sorted)
  binary_lies n lie place Ops.Ne x y sorted none v e = cc (last_of (is_sorted_within n d x) (is_sorted_within n d y) (can_be_equal d.types x.sort) (same_sort x.sort x.sort) (same_sort y.sort x.sort) false sorted)
  binary_lies n lie place Ops.Lt x y sorted none v e = cc (fifth_of (is_sorted_within n d x) (is_sorted_within n d y) (same_sort x.sort Int) (same_sort y.sort Int) false sorted)
  binary_lies n lie place Ops.Le x y sorted none v e = cc (fifth_of (is_sorted_within n d x) (is_sorted_within n d y) (same_sort x.sort Int) (same_sort y.sort Int) false sorted)
  binary_lies n lie place Ops.Gt x y sorted none v e = cc (fifth_of (is_sorted_within n d x) (is_sorted_within n d y) (same_sort x.sort Int) (same_sort y.sort Int) false sorted)
  binary_lies n lie place Ops.Ge x y sorted none v e = cc (fifth_of (is_sorted_within n d x) (is_sorted_within n d y) (same_sort x.sort Int) (same_sort y.sort Int) false sorted)
  binary_lies n lie place Ops.And x y sorted none v e = cc (fifth_of (is_sorted_within n d x) (is_sorted_within n d y) (same_sort x.sort Truths) (same_sort y.sort Truths) false sorted)
  binary_lies n lie place Ops.Or x y sorted none v e = cc (fifth_of (is_sorted_within n d x) (is_sorted_within n d y) (same_sort x.sort Truths) (same_sort y.sort Truths) false sorted)
  binary_lies n lie place Ops.Xor x y sorted none v e = cc (fifth_of (is_sorted_within n d x) (is_sorted_within n d y) (same_sort x.sort Truths) (same_sort y.sort Truths) false sorted)
  binary_lies n lie place Ops.AndThen x y sorted none v e = cc (fifth_of (is_sorted_within n d x) (is_sorted_within n d y) (same_sort x.sort Truths) (same_sort y.sort Truths) false sorted)
  binary_lies n lie place Ops.OrElse x y sorted none v e = cc (fifth_of (is_sorted_within n d x) (is_sorted_within n d y) (same_sort x.sort Truths) (same_sort y.sort Truths) false sorted)

  node_lies : (n : ℕ) → LieWithin n → (place : Place) (o : Node-F Node Select Expr Target) → NodeLies n place o
  node_lies n lie place (Nodes.Number z) sorted none v e = tested_is place (point z) (number_of v) none (given (point z) z v e (record { not_below = omega (arith, ints); not_above = omega (arith, ints) }))
  node_lies n lie place (Nodes.Truth t) sorted none v e = cc
  node_lies n lie place (Nodes.Item k) sorted none v e = cc
  node_lies n lie place (Nodes.Get t) sorted none v e = got (eval b s) t (type_of d t) refl (right_of _ _ sorted) v e
  node_lies n lie place (Nodes.Length t) sorted none v e = counted (eval b s) t (type_of d t) refl (right_of _ _ sorted) v e
  node_lies n lie place (Nodes.Present t) sorted none v e = no_kind (type_of d t) (right_of _ _ sorted)
    where
      no_kind : (o : Option TypeId) → is_present d.types o Int ≡ true → LiesIn (number_of v) (point (pos 0))
      no_kind None is = cc
      no_kind (Some id) is = cc (right_of (is_alternative 0 (slice_get d.types id.0)) false is)
  node_lies n lie place (Nodes.Unary Minus x) sorted none v e = signed n lie place x sorted none v e
  node_lies n lie place (Nodes.Unary Not x) sorted none v e = cc (third_of_three (is_sorted_within n d x) (same_sort x.sort Truths) false sorted)
  node_lies n lie place (Nodes.Binary op x y) sorted none v e = binary_lies n lie place op x y sorted none v e
  node_lies n lie place (Nodes.Sequence es) sorted none v e = cc
  node_lies n lie place (Nodes.SeqOf es) sorted none v e = cc
  node_lies n lie place (Nodes.Choice k x) sorted none v e = cc

  lie_within : (n : ℕ) → LieWithin n
  lie_within zero x sorted is none v e = cc
  lie_within (suc n) x sorted is none v e =
      node_lies n (lie_within n) x.place (out-Node x.node)
      (subst (λ (t : ExprSort). is_node (is_sorted_within n d) d t (out-Node x.node) ≡ true) is (third_of_three (is_place x.place) (is_place x.first) (is_node (is_sorted_within n d) d x.sort (out-Node x.node)) sorted))
      none v (sym (eval_is b s x) ∙ e)

pub values_lie : ValuesLieInTheirIntervals
unfolding range_of
values_lie d b s x v holds sorted is none e = lie_within d b s holds 64 x sorted is none v e
