-- The code of an expression by the depth that is left.
use Rattle.std.proofs.Common.{◌≡◌, ℕ, zero, suc, ◌+◌, ◌-◌, Option, refl, sym, ap, ◌∙◌, arith}
use Rattle.og_model.specs.declared.Expr.{Expr}
use Rattle.og_model.specs.declared.Node.{Node, Node-F, out-Node}
use Rattle.og_model.specs.declared.Node.TheOpen as Nodes
use Rattle.og_model.specs.declared.Select.{Select}
use Rattle.og_model.specs.declared.Target.{Target}
use Rattle.og_model.specs.declared.BinaryOp.{BinaryOp}
use Rattle.og_ranges.specs.declared.Interval.{Interval}
use Rattle.og_ranges.specs.Ranges.{range_of}
use Rattle.og_ranges.specs.Calls.{interval_if}
use Rattle.og_expr.specs.declared.Lowered.{Lowered}
use Rattle.og_expr.specs.Lowering.{Around, Lowers, settled, start_of, operated, binary, lowered_node, lowered_within}

-- one layer of code, where some depth is left
pub one_layer : (n : ℕ) (a : Around) (level at : ℕ) (e : Expr) → (n ≡ 0 → ⊥)
    → lowered_within n a level at e ≡ lowered_node (lowered_within (n - 1) a) (λ (x : Expr). interval_if (range_of a.declared x)) a level at (out-Node e.node)
one_layer zero a level at e some = absurd (some refl)
one_layer (suc n) a level at e some =
    ap (λ (k : ℕ). lowered_node (lowered_within k a) (λ (x : Expr). interval_if (range_of a.declared x)) a level at (out-Node e.node)) (less_one n)
  where
    less_one : (n : ℕ) → n ≡ suc n - 1
    less_one n = omega arith

-- two operands one after the other
pub operands_are : (inner : Lowers) (ranges : Expr → Option Interval) (a : Around) (level at above start : ℕ) (o : BinaryOp) (e f : Expr) (left x y : Lowered)
    → left ≡ inner level at e → x ≡ settled a level left → above ≡ level + 1 → start ≡ start_of at o x → y ≡ inner above start f
    → operated a level at o (ranges e) (ranges f) x y ≡ binary inner ranges a level at o e f
operands_are inner ranges a level at above start o e f left x y first kept up begins second =
    ap (λ (z : Lowered). operated a level at o (ranges e) (ranges f) x z) (second ∙ both above start (up ∙ one_more level) begins)
    ∙ ap (λ (z : Lowered). operated a level at o (ranges e) (ranges f) z (inner (suc level) (start_of at o z) f)) (kept ∙ ap (settled a level) first)
  where
    one_more : (n : ℕ) → n + 1 ≡ suc n
    one_more n = omega arith

    both : (m n : ℕ) → m ≡ suc level → n ≡ start_of at o x → inner m n f ≡ inner (suc level) (start_of at o x) f
    both m n p q = ap (λ (k : ℕ). inner k n f) p ∙ ap (λ (k : ℕ). inner (suc level) k f) q

pub binary_is : (inner : Lowers) (ranges : Expr → Option Interval) (a : Around) (level at above start : ℕ) (o : BinaryOp) (e f : Expr) (left x y : Lowered) (i j : Option Interval)
    (node : Node-F Node Select Expr Target) → node ≡ Nodes.Binary o e f → left ≡ inner level at e → x ≡ settled a level left → above ≡ level + 1 → start ≡ start_of at o x
    → y ≡ inner above start f → i ≡ ranges e → j ≡ ranges f → operated a level at o i j x y ≡ lowered_node inner ranges a level at node
binary_is inner ranges a level at above start o e f left x y i j node is first kept up begins second one two =
    ap (λ (k : Option Interval). operated a level at o k j x y) one ∙ ap (λ (k : Option Interval). operated a level at o (ranges e) k x y) two
    ∙ operands_are inner ranges a level at above start o e f left x y first kept up begins second ∙ sym (ap (lowered_node inner ranges a level at) is)
