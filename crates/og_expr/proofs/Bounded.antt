-- The code of an expression has at most 40 instructions for each node, and at most one temporary more than it is deep.
use Rattle.std.proofs.Common.{ℕ, zero, suc, ◌+◌, ◌*◌, ◌≤◌, ℤ, Bool, true, false, List, ◌++◌, length, Option, arith}
use Rattle.std.proofs.lemmas.List.{length-append}
use Rattle.og_model.specs.declared.BinaryOp.{BinaryOp}
use Rattle.og_model.specs.declared.BinaryOp.TheVariants as Ops
use Rattle.og_model.specs.declared.UnaryOp.{UnaryOp}
use Rattle.og_model.specs.declared.UnaryOp.TheVariants.{Minus, Not}
use Rattle.og_model.specs.declared.Expr.{Expr}
use Rattle.og_model.specs.declared.Target.{Target}
use Rattle.og_model.specs.declared.Select.{Select}
use Rattle.og_model.specs.declared.Node.{Node, Node-F, out-Node}
use Rattle.og_model.specs.declared.Node.TheOpen as Nodes
use Rattle.og_model.specs.Size.{expression_within, node_size}
use Rattle.og_ir.specs.declared.Instr.{Instr}
use Rattle.og_ir.specs.declared.Flat.{Flat}
use Rattle.og_ir.specs.declared.FlatRel.TheVariants as rel
use Rattle.og_model.specs.declared.FaultKind.TheVariants as Fault
use Rattle.og_ranges.specs.declared.Interval.{Interval}
use Rattle.og_ranges.specs.Ranges.{range_of}
use Rattle.og_ranges.specs.Calls.{interval_if}
use Rattle.og_expr.specs.declared.Operand.{Operand}
use Rattle.og_expr.specs.declared.Operand.TheVariants.{Literal, Variable, Temporary}
use Rattle.og_expr.specs.declared.Lowered.{Lowered}
use Rattle.og_expr.specs.Lowering.{Around, settle, settled, guard, divisor, lifted, ending, between, is_tested, may_be_negative, start_of, joined, operated, less, negated, unary, binary, lowered_node, lowered_within, lowered, flat_of, size_between}
use Rattle.og_expr.specs.Bounds.{nodes_alone, nodes_of, CodeIsBounded, TemporariesAreFew}

settle_length : (a : Around) (level : ℕ) (o : Operand) → length (settle a level o) ≤ 1
settle_length a level (Literal z) = omega arith
settle_length a level (Variable k) = omega arith
settle_length a level Temporary = omega arith

settled_length : (a : Around) (level : ℕ) (x : Lowered) → length (settled a level x).code ≤ length x.code + 1
settled_length a level x = let e = length-append x.code (settle a level x.value) in let h = settle_length a level x.value in omega (arith, e, h)

-- some instructions behind others
longer : (xs ys : List Instr) (n : ℕ) → length ys ≤ n → length (xs ++ ys) ≤ length xs + n
longer xs ys n h = let e = length-append xs ys in omega (arith, e, h)

divisor_length : (a : Around) (level at : ℕ) (t : Bool) (y : Lowered) → length (divisor a level at t y).code ≤ length y.code + 4
divisor_length a level at false y = omega arith
divisor_length a level at true y =
    let h = settled_length a level y in let k = longer (settled a level y).code (guard a (at + length (settled a level y).code) rel.Ne (a.temps level) Fault.Division) 3 three in omega (arith, h, k)
  where
    three : 3 ≤ 3
    three = omega arith

lifted_length : (a : Around) (level at : ℕ) (t : Bool) (right : Flat) → length (lifted a level at t right) ≤ 2
lifted_length a level at false right = omega arith
lifted_length a level at true right = omega arith

ending_length : (a : Around) (level at : ℕ) (o : BinaryOp) (t : Bool) (right : Flat) → length (ending a level at o t right) ≤ 4
ending_length a level at Ops.Add t right = omega arith
ending_length a level at Ops.Sub t right = omega arith
ending_length a level at Ops.Mul t right = omega arith
ending_length a level at Ops.Div t right = omega arith
ending_length a level at Ops.Rem t right = omega arith
ending_length a level at Ops.Mod t right = let h = lifted_length a level (at + 1) t right in omega (arith, h)
ending_length a level at Ops.Eq t right = omega arith
ending_length a level at Ops.Ne t right = omega arith
ending_length a level at Ops.Lt t right = omega arith
ending_length a level at Ops.Le t right = omega arith
ending_length a level at Ops.Gt t right = omega arith
ending_length a level at Ops.Ge t right = omega arith
ending_length a level at Ops.Xor t right = omega arith
ending_length a level at Ops.And t right = omega arith
ending_length a level at Ops.Or t right = omega arith
ending_length a level at Ops.AndThen t right = omega arith
ending_length a level at Ops.OrElse t right = omega arith

between_length : (a : Around) (level at : ℕ) (o : BinaryOp) (n : ℕ) → length (between a level at o n) ≤ 1
between_length a level at Ops.Add n = omega arith
between_length a level at Ops.Sub n = omega arith
between_length a level at Ops.Mul n = omega arith
between_length a level at Ops.Div n = omega arith
between_length a level at Ops.Rem n = omega arith
between_length a level at Ops.Mod n = omega arith
between_length a level at Ops.Eq n = omega arith
between_length a level at Ops.Ne n = omega arith
between_length a level at Ops.Lt n = omega arith
between_length a level at Ops.Le n = omega arith
between_length a level at Ops.Gt n = omega arith
between_length a level at Ops.Ge n = omega arith
between_length a level at Ops.Xor n = omega arith
between_length a level at Ops.And n = omega arith
between_length a level at Ops.Or n = omega arith
between_length a level at Ops.AndThen n = omega arith
between_length a level at Ops.OrElse n = omega arith

four_parts : (p q r s : List Instr) → length q ≤ 1 → length s ≤ 4 → length (((p ++ q) ++ r) ++ s) ≤ length p + length r + 5
four_parts p q r s one four =
    let e = length-append ((p ++ q) ++ r) s in let f = length-append (p ++ q) r in let g = length-append p q in omega (arith, e, f, g, one, four)

joined_length : (a : Around) (level at : ℕ) (o : BinaryOp) (t : Bool) (x y : Lowered) → length (joined a level at o t x y).code ≤ length x.code + length y.code + 5
joined_length a level at o t x y =
    four_parts x.code (between a level (at + length x.code) o (length y.code)) y.code
    (ending a level ((at + length x.code) + (size_between o + length y.code)) o t (flat_of a (suc level) y.value))
    (between_length a level (at + length x.code) o (length y.code))
    (ending_length a level ((at + length x.code) + (size_between o + length y.code)) o t (flat_of a (suc level) y.value))

less_length : (a : Around) (level : ℕ) (z : ℤ) (x : Lowered) → length (less a level z x).code ≤ length x.code + 1
less_length a level z x = longer x.code _ 1 one
  where
    one : 1 ≤ 1
    one = omega arith

negated_length : (a : Around) (level : ℕ) (x : Lowered) (o : Operand) → length (negated a level x o).code ≤ length x.code + 1
negated_length a level x (Literal z) = omega arith
negated_length a level x (Variable k) = less_length a level _ x
negated_length a level x Temporary = less_length a level _ x

unary_length : (a : Around) (level : ℕ) (o : UnaryOp) (x : Lowered) → length (unary a level o x).code ≤ length x.code + 1
unary_length a level Minus x = negated_length a level x x.value
unary_length a level Not x = less_length a level _ x

operated_length : (a : Around) (level at : ℕ) (o : BinaryOp) (i j : Option Interval) (x y : Lowered) → length (operated a level at o i j x y).code ≤ length x.code + length y.code + 9
operated_length a level at o i j x y =
    let d = divisor_length a (suc level) (start_of at o x) (is_tested o j) y in
    let h = joined_length a level at o (may_be_negative i) x (divisor a (suc level) (start_of at o x) (is_tested o j) y) in
    omega (arith, d, h)

abbrev Bounded : ℕ → Around → Type 0
Bounded n a = (level at : ℕ) (e : Expr) → length (lowered_within n a level at e).code ≤ 40 * expression_within n nodes_alone e

module _ (n : ℕ) (a : Around) (inner : Bounded n a) (ranges : Expr → Option Interval) where
  operands : (level at : ℕ) (o : BinaryOp) (e f : Expr)
      → length (binary (lowered_within n a) ranges a level at o e f).code ≤ 40 * (1 + expression_within n nodes_alone e + expression_within n nodes_alone f)
  operands level at o e f = by (settled_length a level (lowered_within n a level at e)) (inner level at e) (inner (suc level) start f)
      (operated_length a level at o (ranges e) (ranges f) left (lowered_within n a (suc level) start f))
    where
      left : Lowered
      left = settled a level (lowered_within n a level at e)

      start : ℕ
      start = start_of at o left

      by : length (settled a level (lowered_within n a level at e)).code ≤ length (lowered_within n a level at e).code + 1
          → length (lowered_within n a level at e).code ≤ 40 * expression_within n nodes_alone e
          → length (lowered_within n a (suc level) start f).code ≤ 40 * expression_within n nodes_alone f
          → length (operated a level at o (ranges e) (ranges f) left (lowered_within n a (suc level) start f)).code ≤ length left.code + length (lowered_within n a (suc level) start f).code + 9
          → length (binary (lowered_within n a) ranges a level at o e f).code ≤ 40 * (1 + expression_within n nodes_alone e + expression_within n nodes_alone f)
      by p q r s = omega (arith, p, q, r, s)

  node_bounded : (level at : ℕ) (o : Node-F Node Select Expr Target)
      → length (lowered_node (lowered_within n a) ranges a level at o).code ≤ 40 * node_size nodes_alone (expression_within n nodes_alone) o
  node_bounded level at (Nodes.Number z) = omega arith
  node_bounded level at (Nodes.Truth t) = omega arith
  node_bounded level at (Nodes.Item k) = omega arith
  node_bounded level at (Nodes.Get t) = omega arith
  node_bounded level at (Nodes.Length t) = omega arith
  node_bounded level at (Nodes.Present t) = omega arith
  node_bounded level at (Nodes.Unary o e) =
      let h = unary_length a level o (lowered_within n a level at e) in let k = inner level at e in omega (arith, h, k)
  node_bounded level at (Nodes.Binary o e f) = operands level at o e f
  node_bounded level at (Nodes.Sequence es) = omega arith
  node_bounded level at (Nodes.SeqOf es) = omega arith
  node_bounded level at (Nodes.Choice k e) = omega arith

bounded_within : (n : ℕ) (a : Around) → Bounded n a
bounded_within zero a level at e = omega arith
bounded_within (suc n) a level at e = node_bounded n a (bounded_within n a) (λ x. interval_if (range_of a.declared x)) level at (out-Node e.node)

pub code_is_bounded : CodeIsBounded
unfolding lowered nodes_of
code_is_bounded a level at e = bounded_within 64 a level at e

-- ---- temporaries

abbrev Few : ℕ → Around → Type 0
Few n a = (level at : ℕ) (e : Expr) → (lowered_within n a level at e).temps ≤ level + n + 1

divisor_temps : (a : Around) (level at k : ℕ) (t : Bool) (y : Lowered) → suc level ≤ k → y.temps ≤ k → (divisor a level at t y).temps ≤ k
divisor_temps a level at k false y above h = h
divisor_temps a level at k true y above h = omega (arith, above, h)

negated_temps : (a : Around) (level k : ℕ) (x : Lowered) (o : Operand) → suc level ≤ k → x.temps ≤ k → (negated a level x o).temps ≤ k
negated_temps a level k x (Literal z) above h = omega arith
negated_temps a level k x (Variable i) above h = omega (arith, above, h)
negated_temps a level k x Temporary above h = omega (arith, above, h)

unary_temps : (a : Around) (level k : ℕ) (o : UnaryOp) (x : Lowered) → suc level ≤ k → x.temps ≤ k → (unary a level o x).temps ≤ k
unary_temps a level k Minus x above h = negated_temps a level k x x.value above h
unary_temps a level k Not x above h = omega (arith, above, h)

module _ (n : ℕ) (a : Around) (inner : Few n a) (ranges : Expr → Option Interval) where
  both_few : (level at : ℕ) (o : BinaryOp) (e f : Expr) → (binary (lowered_within n a) ranges a level at o e f).temps ≤ level + suc n + 1
  both_few level at o e f = by (inner level at e) (divisor_temps a (suc level) start (level + suc n + 1) (is_tested o (ranges f)) right (omega arith) (next (inner (suc level) start f)))
    where
      left : Lowered
      left = settled a level (lowered_within n a level at e)

      start : ℕ
      start = start_of at o left

      right : Lowered
      right = lowered_within n a (suc level) start f

      next : right.temps ≤ suc level + n + 1 → right.temps ≤ level + suc n + 1
      next h = omega (arith, h)

      by : (lowered_within n a level at e).temps ≤ level + n + 1 → (divisor a (suc level) start (is_tested o (ranges f)) right).temps ≤ level + suc n + 1
          → (binary (lowered_within n a) ranges a level at o e f).temps ≤ level + suc n + 1
      by p q = omega (arith, p, q)

  node_few : (level at : ℕ) (o : Node-F Node Select Expr Target) → (lowered_node (lowered_within n a) ranges a level at o).temps ≤ level + suc n + 1
  node_few level at (Nodes.Number z) = omega arith
  node_few level at (Nodes.Truth t) = omega arith
  node_few level at (Nodes.Item k) = omega arith
  node_few level at (Nodes.Get t) = omega arith
  node_few level at (Nodes.Length t) = omega arith
  node_few level at (Nodes.Present t) = omega arith
  node_few level at (Nodes.Unary o e) = unary_temps a level (level + suc n + 1) o (lowered_within n a level at e) (omega arith) (next (inner level at e))
    where
      next : (lowered_within n a level at e).temps ≤ level + n + 1 → (lowered_within n a level at e).temps ≤ level + suc n + 1
      next h = omega (arith, h)
  node_few level at (Nodes.Binary o e f) = both_few level at o e f
  node_few level at (Nodes.Sequence es) = omega arith
  node_few level at (Nodes.SeqOf es) = omega arith
  node_few level at (Nodes.Choice k e) = omega arith

few_within : (n : ℕ) (a : Around) → Few n a
few_within zero a level at e = omega arith
few_within (suc n) a level at e = node_few n a (few_within n a) (λ x. interval_if (range_of a.declared x)) level at (out-Node e.node)

pub temporaries_are_few : TemporariesAreFew
unfolding lowered
temporaries_are_few a level at e = let h = few_within 64 a level at e in omega (arith, h)
