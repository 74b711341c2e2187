-- Each interval that is made has a number, and lies within 64 bits.
use Rattle.std.proofs.Common.{◌≡◌, ℕ, zero, suc, ◌≤◌, Bool, true, false, cond, List, [], ◌∷◌, ◌++◌, slice_get, Option, Some, None, refl, arith, ℤ, pos, negsuc, ◌≤ℤ◌, ◌-ℤ◌, ◌*ℤ◌, neg_ℤ, int_lt, int_le, int_div}
use Rattle.std.specs.Prelude.{◌&&◌}
use Rattle.std.specs.Ordering.{int_eq}
use Rattle.std.proofs.lemmas.Int.{ints, clamps}
use Rattle.std.proofs.lemmas.Bool.{leb-true}
use Rattle.og_names.proofs.Truths.{both_first as left_of, both_second as right_of, both_true}
use Rattle.og_base.specs.declared.Place.{Place}
use Rattle.og_base.specs.declared.Rule.TheVariants.{G1, G5}
use Rattle.og_base.specs.declared.Violation.{Violation}
use Rattle.og_types.specs.declared.TypeId.{TypeId}
use Rattle.og_types.specs.declared.Sort.{Sort}
use Rattle.og_types.specs.declared.Sort.TheVariants as Sorts
use Rattle.og_types.specs.Table.{in_64_bits, is_sort_after, are_sorts_from, is_table}
use Rattle.og_model.specs.declared.UnaryOp.TheVariants.{Minus, Not}
use Rattle.og_model.specs.declared.BinaryOp.{BinaryOp}
use Rattle.og_model.specs.declared.BinaryOp.TheVariants as Ops
use Rattle.og_model.specs.declared.Target.{Target}
use Rattle.og_model.specs.declared.Select.{Select}
use Rattle.og_model.specs.declared.Expr.{Expr}
use Rattle.og_model.specs.declared.Node.{Node, Node-F, out-Node}
use Rattle.og_model.specs.declared.Node.TheOpen as Nodes
use Rattle.og_model.specs.WellSorted.{Data, type_of}
use Rattle.og_ranges.specs.declared.Interval.{Interval}
use Rattle.og_ranges.specs.Intervals.{sum_of, difference_of, negative_of, product_of, spanned, corners, up_to, farthest, quotient_of, leaves_at_most, modulus_of, remainder_of}
use Rattle.og_ranges.specs.Ranges.{Range, point, is_within_64_bits, tested, violates, divided, by_operator, by_sign, where_kept, bounds_of, lengths_of, sort_numbered, range_of_node, range_within, range_of}
use Rattle.og_ranges.proofs.Ends.{at_most_true}
use Rattle.og_ranges.proofs.Left.{not_zero}
use Rattle.og_ranges.specs.Laws.{IsWithin, NumbersHaveIntervals}

-- ---- the ends are in their order

abbrev IsOrdered : Interval → Type 0
IsOrdered a = a.lo ≤ℤ a.hi

spanned_is : (p q r s : ℤ) → IsOrdered (spanned p q r s)
spanned_is p q r s = omega (arith, ints, clamps)

quotient_is : (a b : Interval) → IsOrdered (quotient_of a b)
quotient_is a b = go (int_le (pos 1) b.lo)
  where
    go : (t : Bool) → IsOrdered (cond t (corners int_div a b) (up_to (farthest a)))
    go true = spanned_is (int_div a.lo b.lo) (int_div a.lo b.hi) (int_div a.hi b.lo) (int_div a.hi b.hi)
    go false = omega (arith, ints)

leaves_by : (z : ℤ) → pos 0 ≤ℤ z → pos 0 ≤ℤ cond (int_eq z (pos 0)) (pos 0) (z -ℤ pos 1)
leaves_by (negsuc n) least = absurd (omega (arith, ints, least))
leaves_by (pos n) least = go (int_eq (pos n) (pos 0)) refl
  where
    go : (t : Bool) → int_eq (pos n) (pos 0) ≡ t → pos 0 ≤ℤ cond t (pos 0) (pos n -ℤ pos 1)
    go true e = omega (arith, ints)
    go false e = let some = not_zero n e in omega (arith, ints, some)

leaves_is : (b : Interval) → pos 0 ≤ℤ b.lo → IsOrdered b → pos 0 ≤ℤ leaves_at_most b
leaves_is b least is = leaves_by b.hi (omega (arith, ints, least, is))

remainder_is : (a b : Interval) → pos 0 ≤ℤ b.lo → IsOrdered b → IsOrdered (remainder_of a b)
remainder_is a b least is = go (int_lt a.lo (pos 0)) (int_lt (pos 0) a.hi) (leaves_is b least is)
  where
    go : (t u : Bool) → pos 0 ≤ℤ leaves_at_most b → cond t (neg_ℤ (leaves_at_most b)) (pos 0) ≤ℤ cond u (leaves_at_most b) (pos 0)
    go true true h = omega (arith, ints, h)
    go true false h = omega (arith, ints, h)
    go false true h = h
    go false false h = omega (arith, ints)

-- ---- what is tested lies within 64 bits

zero_is : IsWithin (point (pos 0))
zero_is = record { ordered = omega (arith, ints); within = refl }

tested_is : (place : Place) (a : Interval) → IsOrdered a → IsWithin (tested place a).interval
tested_is place a is = go (is_within_64_bits a) refl
  where
    go : (t : Bool) → is_within_64_bits a ≡ t → IsWithin (cond t (record { interval = a; violations = [] }) (violates G1 place)).interval
    go true e = record { ordered = is; within = e }
    go false e = zero_is

divided_is : (place : Place) (b a : Interval) → (pos 0 ≤ℤ b.lo → IsOrdered a) → IsWithin (divided place b a).interval
divided_is place b a is = go (int_lt b.lo (pos 0)) refl
  where
    go : (t : Bool) → int_lt b.lo (pos 0) ≡ t → IsWithin (cond t (violates G5 place) (tested place a)).interval
    go true e = zero_is
    go false e = tested_is place a (is (omega (arith, ints)))

kept_is : (vs : List Violation) (whole : Range) → IsWithin whole.interval → IsWithin (where_kept vs whole).interval
kept_is [] whole is = is
kept_is (v ∷ vs) whole is = zero_is

operator_is : (place : Place) (op : BinaryOp) (a b : Interval) → IsWithin a → IsWithin b → IsWithin (by_operator place op a b).interval
operator_is place Ops.Add a b h k = tested_is place (sum_of a b) (omega (arith, ints, h.ordered, k.ordered))
operator_is place Ops.Sub a b h k = tested_is place (difference_of a b) (omega (arith, ints, h.ordered, k.ordered))
operator_is place Ops.Mul a b h k = tested_is place (product_of a b) (spanned_is (a.lo *ℤ b.lo) (a.lo *ℤ b.hi) (a.hi *ℤ b.lo) (a.hi *ℤ b.hi))
operator_is place Ops.Div a b h k = tested_is place (quotient_of a b) (quotient_is a b)
operator_is place Ops.Mod a b h k = divided_is place b (modulus_of a b) (λ least. leaves_is b least k.ordered)
operator_is place Ops.Rem a b h k = divided_is place b (remainder_of a b) (λ least. remainder_is a b least k.ordered)
operator_is place Ops.Eq a b h k = zero_is
operator_is place Ops.Ne a b h k = zero_is
operator_is place Ops.Lt a b h k = zero_is
operator_is place Ops.Le a b h k = zero_is
operator_is place Ops.Gt a b h k = zero_is
operator_is place Ops.Ge a b h k = zero_is
operator_is place Ops.And a b h k = zero_is
operator_is place Ops.Or a b h k = zero_is
operator_is place Ops.Xor a b h k = zero_is
operator_is place Ops.AndThen a b h k = zero_is
operator_is place Ops.OrElse a b h k = zero_is

-- ---- types

-- a type of a table stands behind some others
from_table : (types : List Sort) (n : ℕ) (ts : List Sort) (k : ℕ) (t : Sort) → are_sorts_from types n ts ≡ true → slice_get ts k ≡ Some t → (m : ℕ) × (is_sort_after m t ≡ true)
from_table types n [] zero t all at = cc
from_table types n [] (suc k) t all at = cc
from_table types n (u ∷ ts) zero t all at = (n, same u t at (left_of _ _ all))
  where
    same : (u t : Sort) → ◌≡◌ {A = Option Sort} (Some u) (Some t) → is_sort_after n u ≡ true → is_sort_after n t ≡ true
    same u t e is = cc
from_table types n (u ∷ ts) (suc k) t all at = from_table types (suc n) ts k t (right_of _ _ (right_of _ _ all)) at

bounds_are : (m : ℕ) (t : Sort) → is_sort_after m t ≡ true → IsWithin (bounds_of (Some t))
bounds_are m (Sorts.Int lo hi) is = between (left_of (in_64_bits lo) (in_64_bits hi && int_le lo hi) is) (left_of (in_64_bits hi) (int_le lo hi) (right_of (in_64_bits lo) (in_64_bits hi && int_le lo hi) is)) (right_of (in_64_bits hi) (int_le lo hi) (right_of (in_64_bits lo) (in_64_bits hi && int_le lo hi) is))
  where
    between : in_64_bits lo ≡ true → in_64_bits hi ≡ true → int_le lo hi ≡ true → IsWithin (record { lo = lo; hi = hi })
    between low high le = record { ordered = omega (arith, ints); within = both_true (int_le (negsuc 9223372036854775807) lo) (int_le hi (pos 9223372036854775807)) (left_of (int_le (negsuc 9223372036854775807) lo) (int_le lo (pos 9223372036854775807)) low) (right_of (int_le (negsuc 9223372036854775807) hi) (int_le hi (pos 9223372036854775807)) high) }
bounds_are m Sorts.Bool is = zero_is
bounds_are m (Sorts.Enumerated names numbers) is = zero_is
bounds_are m (Sorts.Sequence parts) is = zero_is
bounds_are m (Sorts.Choice parts) is = zero_is
bounds_are m (Sorts.SeqOf lo hi item) is = zero_is
bounds_are m Sorts.Opaque is = zero_is

lengths_are : (m : ℕ) (t : Sort) → is_sort_after m t ≡ true → IsWithin (lengths_of (Some t))
lengths_are m (Sorts.SeqOf lo hi item) is = between (leb-true lo hi (left_of _ _ is)) (leb-true hi 65536 (left_of _ _ (right_of _ _ is)))
  where
    between : lo ≤ hi → hi ≤ 65536 → IsWithin (record { lo = pos lo; hi = pos hi })
    between le few = record { ordered = omega (arith, ints, le); within = both_true _ _ (int_le_true (negsuc 9223372036854775807) (pos lo) (omega (arith, ints))) (int_le_true (pos hi) (pos 9223372036854775807) (omega (arith, ints, few))) }
      where
        int_le_true : (a b : ℤ) → a ≤ℤ b → int_le a b ≡ true
        int_le_true a b h = at_most_true a b h
lengths_are m (Sorts.Int lo hi) is = zero_is
lengths_are m Sorts.Bool is = zero_is
lengths_are m (Sorts.Enumerated names numbers) is = zero_is
lengths_are m (Sorts.Sequence parts) is = zero_is
lengths_are m (Sorts.Choice parts) is = zero_is
lengths_are m Sorts.Opaque is = zero_is

module _ (d : Data) (table : is_table d.types ≡ true) where
  numbered_are : (of : Option Sort → Interval) → IsWithin (of None) → ((m : ℕ) (t : Sort) → is_sort_after m t ≡ true → IsWithin (of (Some t))) → (o : Option TypeId) → IsWithin (of (sort_numbered d.types o))
  numbered_are of none each None = none
  numbered_are of none each (Some id) = go (slice_get d.types id.0) refl
    where
      go : (t : Option Sort) → slice_get d.types id.0 ≡ t → IsWithin (of t)
      go None at = none
      go (Some t) at = let stands = from_table d.types 0 d.types id.0 t table at in each stands.0 t stands.1

  node_is : (n : ℕ) → ((e : Expr) → IsWithin (range_within n d e).interval) → (place : Place) (o : Node-F Node Select Expr Target) → IsWithin (range_of_node (range_within n d) d place o).interval
  node_is n inner place (Nodes.Number z) = tested_is place (point z) (omega (arith, ints))
  node_is n inner place (Nodes.Truth t) = zero_is
  node_is n inner place (Nodes.Item k) = zero_is
  node_is n inner place (Nodes.Get t) = numbered_are bounds_of zero_is bounds_are (type_of d t)
  node_is n inner place (Nodes.Length t) = numbered_are lengths_of zero_is lengths_are (type_of d t)
  node_is n inner place (Nodes.Present t) = zero_is
  node_is n inner place (Nodes.Unary Minus x) = let h = inner x in kept_is (range_within n d x).violations (by_sign place Minus (range_within n d x).interval) (tested_is place (negative_of (range_within n d x).interval) (omega (arith, ints, h.ordered)))
  node_is n inner place (Nodes.Unary Not x) = kept_is (range_within n d x).violations (by_sign place Not (range_within n d x).interval) zero_is
  node_is n inner place (Nodes.Binary op x y) =
      kept_is ((range_within n d x).violations ++ (range_within n d y).violations) (by_operator place op (range_within n d x).interval (range_within n d y).interval) (operator_is place op (range_within n d x).interval (range_within n d y).interval (inner x) (inner y))
  node_is n inner place (Nodes.Sequence es) = zero_is
  node_is n inner place (Nodes.SeqOf es) = zero_is
  node_is n inner place (Nodes.Choice k x) = zero_is

  pub within_is : (n : ℕ) (e : Expr) → IsWithin (range_within n d e).interval
  within_is zero e = zero_is
  within_is (suc n) e = node_is n (within_is n) e.place (out-Node e.node)

pub have_intervals : NumbersHaveIntervals
unfolding range_of
have_intervals d e table = within_is d table 64 e
