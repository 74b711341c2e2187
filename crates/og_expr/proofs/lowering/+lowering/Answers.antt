use Rattle.std.proofs.Common.{◌≡◌, IfOk, sym, ap, ◌∙◌, subst}
use Rattle.og_model.specs.declared.Expr.{Expr}
use Rattle.og_model.specs.declared.Node.{out-Node}
use Rattle.og_model.specs.declared.Node.TheViews.{outs-Binary}
use Rattle.og_ranges.specs.Ranges.{range_of}
use Rattle.og_ranges.specs.Calls.{data_of, interval_if}
use Rattle.og_expr.specs.declared.Lowered.{Lowered}
use Rattle.og_expr.specs.Lowering.{lowered_within}
use Rattle.og_expr.specs.Calls.{around_of}
use Rattle.og_expr.proofs.Layers.{one_layer, binary_is}
use Rattle.og_expr.proofs.lowering.+lowering.Goals as goal

-- src/lowering.rt:56:1
pub lower_node-returns-in_ok-y-in-Binary : goal.lower_node-returns-in_ok-y-in-Binary
lower_node-returns-in_ok-y-in-Binary t c =
    subst (λ (z : Lowered). IfOk c.operated.result (λ made. made ≡ z))
    (binary_is (lowered_within c.args.depth (around_of c.args.around)) (λ (x : Expr). interval_if (range_of (data_of c.args.around.declared) x)) (around_of c.args.around)
    c.args.level c.args.at c.in_ok-above-in-Binary.above c.in_ok-start-in-Binary.start c.in-Binary.op c.in-Binary.left c.in-Binary.right
    c.in_ok-x-in-Binary.x c.in_ok-x-in-Binary-2.x c.in_ok-y-in-Binary.y c.interval_of.result c.interval_of-in-Binary.result (out-Node c.args.node.now) (ap out-Node c.in-Binary.is ∙ outs-Binary c.in-Binary.op c.in-Binary.left c.in-Binary.right)
    (cc (c.in_ok-x-in-Binary.ensures, c.get-in-Binary.ensures)) c.in_ok-x-in-Binary-2.ensures c.in_ok-above-in-Binary.ensures.sum c.in_ok-start-in-Binary.ensures
    (cc (c.in_ok-y-in-Binary.ensures, c.get-in-Binary-2.ensures)) (cc (c.interval_of.ensures, c.get-in-Binary-3.ensures)) (cc (c.interval_of-in-Binary.ensures, c.get-in-Binary-4.ensures)))
    c.operated.ensures

-- src/lowering.rt:39:1
pub lower_within-returns : goal.lower_within-returns
lower_within-returns t c =
    subst (λ (z : Lowered). IfOk c.lower_node.result (λ made. made ≡ z))
    (sym (one_layer c.args.depth (around_of c.args.around) c.args.level c.args.at c.args.e.now c.if-depth-eq0.false)) c.lower_node.ensures
