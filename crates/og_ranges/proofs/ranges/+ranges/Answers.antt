use Rattle.std.proofs.Common.{sym, ap, ap₂, ◌∙◌, Bool, List, Option}
use Rattle.std.specs.Prelude.{◌&&◌}
use Rattle.og_base.specs.declared.Violation.{Violation}
use Rattle.og_base.specs.Order.{first_from}
use Rattle.og_model.specs.declared.Expr.{Expr}
use Rattle.og_model.specs.declared.Node.{Node, Node-F, out-Node}
use Rattle.og_model.specs.declared.Node.TheOpen as Nodes
use Rattle.og_model.specs.declared.Node.TheViews.{outs-Unary, outs-Binary}
use Rattle.og_model.specs.declared.Target.{Target}
use Rattle.og_model.specs.declared.Select.{Select, out-Select}
use Rattle.og_ranges.specs.Ranges.{Range, in_selector, range_within, range_of_node, by_sign, by_operator}
use Rattle.og_ranges.specs.Calls.{data_of}
use Rattle.og_ranges.proofs.Called.{noted_more, marked_more, is_there, there, there_within, sign_first, operator_first, broken_first, one_layer}
use Rattle.og_ranges.proofs.ranges.+ranges.Goals as goal

pub each_kept-loop-e-preserved : goal.each_kept-loop-e-preserved
each_kept-loop-e-preserved t c =
    let f : Expr → List Violation = λ e. (range_within c.args.depth (data_of c.args.declared) e).violations in (
      marked_more f c.args.es.now c.loop-e.e-index c.e-item.result c.loop-e.kept _ c.loop-e-test.true c.e-item.is
          (ap (λ (b : Bool). c.loop-e.kept && b) (c.is_some-kept.ensures ∙ is_there (range_within c.args.depth (data_of c.args.declared) c.e-item.result) c.range_within-inner.result c.range_within-inner.ensures.interval)) c.loop-e.invariant.0,
      noted_more f c.args.es.now c.loop-e.e-index c.e-item.result c.loop-e.first c.range_within-inner.new.first c.args.first.now c.loop-e-test.true c.e-item.is c.range_within-inner.ensures.first c.loop-e.invariant.1,
    )

pub indices_kept-loop-select-preserved : goal.indices_kept-loop-select-preserved
indices_kept-loop-select-preserved t c =
    let f : Select → List Violation = λ s. in_selector (range_within c.args.depth (data_of c.args.declared)) (out-Select s) in (
      marked_more f c.as_slice-select-items.result.now c.loop-select.select-index c.select-item.result c.loop-select.kept _ c.loop-select-test.true c.select-item.is
          (ap (λ (b : Bool). c.loop-select.kept && b) c.index_kept-own.ensures.kept) c.loop-select.invariant.0,
      noted_more f c.as_slice-select-items.result.now c.loop-select.select-index c.select-item.result c.loop-select.first c.index_kept-own.new.first c.args.first.now c.loop-select-test.true c.select-item.is c.index_kept-own.ensures.first c.loop-select.invariant.1,
    )

pub range_of_node-by_sign-requires : goal.range_of_node-by_sign-requires
range_of_node-by_sign-requires t c =
    there_within (data_of c.args.declared) c.args.depth c.get.result.now c.in_ok-inner-in-Unary.field-0 c.requires.table (sym c.in_ok-inner-in-Unary.was ∙ c.range_within-inner.ensures.interval)

pub range_of_node-by_operator-requires-clause-left : goal.range_of_node-by_operator-requires-clause-left
range_of_node-by_operator-requires-clause-left t c =
    there_within (data_of c.args.declared) c.args.depth c.get-in-Binary.result.now c.in_ok-a-in-Binary.field-0 c.requires.table (sym c.in_ok-a-in-Binary.was ∙ c.range_within-a.ensures.interval)

pub range_of_node-by_operator-requires-clause-right : goal.range_of_node-by_operator-requires-clause-right
range_of_node-by_operator-requires-clause-right t c =
    there_within (data_of c.args.declared) c.args.depth c.get-in-Binary-2.result.now c.in_ok-b-in-Binary.field-0 c.requires.table (sym c.in_ok-b-in-Binary.was ∙ c.range_within-b.ensures.interval)

pub range_of_node-returns-in_err-a-in-Binary-clause-first :
    goal.range_of_node-returns-in_err-a-in-Binary-clause-first
range_of_node-returns-in_err-a-in-Binary-clause-first t c =
    c.range_within-b.ensures.first ∙ ap (λ (o : Option Violation). first_from o (range_within c.args.depth (data_of c.args.declared) c.get-in-Binary-2.result.now).violations) c.range_within-a.ensures.first
    ∙ broken_first (range_within c.args.depth (data_of c.args.declared) c.get-in-Binary.result.now) (range_within c.args.depth (data_of c.args.declared) c.get-in-Binary-2.result.now).violations _ c.args.first.now
    (sym c.in_err-a-in-Binary.was ∙ c.range_within-a.ensures.interval)
    ∙ ap (λ (o : Node-F Node Select Expr Target). first_from c.args.first.now (range_of_node (range_within c.args.depth (data_of c.args.declared)) (data_of c.args.declared) c.args.place o).violations) (ap₂ (λ (x y : Expr). Nodes.Binary c.in-Binary.op x y) c.get-in-Binary.ensures c.get-in-Binary-2.ensures ∙ sym (outs-Binary c.in-Binary.op c.in-Binary.left c.in-Binary.right) ∙ ap out-Node (sym c.in-Binary.is))

pub range_of_node-returns-in_ok-inner-in-Unary-clause-first :
    goal.range_of_node-returns-in_ok-inner-in-Unary-clause-first
range_of_node-returns-in_ok-inner-in-Unary-clause-first t c =
    c.by_sign.ensures.first ∙ ap (λ (o : Option Violation). first_from o (by_sign c.args.place c.in-Unary.op c.in_ok-inner-in-Unary.field-0).violations) c.range_within-inner.ensures.first
    ∙ sign_first (range_within c.args.depth (data_of c.args.declared) c.get.result.now) c.in_ok-inner-in-Unary.field-0 c.args.place c.in-Unary.op c.args.first.now
    (there (range_within c.args.depth (data_of c.args.declared) c.get.result.now) c.in_ok-inner-in-Unary.field-0 (sym c.in_ok-inner-in-Unary.was ∙ c.range_within-inner.ensures.interval))
    ∙ ap (λ (o : Node-F Node Select Expr Target). first_from c.args.first.now (range_of_node (range_within c.args.depth (data_of c.args.declared)) (data_of c.args.declared) c.args.place o).violations) (ap (λ (e : Expr). Nodes.Unary c.in-Unary.op e) c.get.ensures ∙ sym (outs-Unary c.in-Unary.op c.in-Unary.e) ∙ ap out-Node (sym c.in-Unary.is))

pub range_of_node-returns-in_ok-b-in-Binary-clause-first :
    goal.range_of_node-returns-in_ok-b-in-Binary-clause-first
range_of_node-returns-in_ok-b-in-Binary-clause-first t c =
    let left = range_within c.args.depth (data_of c.args.declared) c.get-in-Binary.result.now in
    let right = range_within c.args.depth (data_of c.args.declared) c.get-in-Binary-2.result.now in
    c.by_operator.ensures.first
    ∙ ap (λ (o : Option Violation). first_from o (by_operator c.args.place c.in-Binary.op c.in_ok-a-in-Binary.field-0 c.in_ok-b-in-Binary.field-0).violations)
    (c.range_within-b.ensures.first ∙ ap (λ (o : Option Violation). first_from o right.violations) c.range_within-a.ensures.first)
    ∙ operator_first left right c.in_ok-a-in-Binary.field-0 c.in_ok-b-in-Binary.field-0 c.args.place c.in-Binary.op c.args.first.now
    (there left c.in_ok-a-in-Binary.field-0 (sym c.in_ok-a-in-Binary.was ∙ c.range_within-a.ensures.interval))
    (there right c.in_ok-b-in-Binary.field-0 (sym c.in_ok-b-in-Binary.was ∙ c.range_within-b.ensures.interval))
    ∙ ap (λ (o : Node-F Node Select Expr Target). first_from c.args.first.now (range_of_node (range_within c.args.depth (data_of c.args.declared)) (data_of c.args.declared) c.args.place o).violations) (ap₂ (λ (x y : Expr). Nodes.Binary c.in-Binary.op x y) c.get-in-Binary.ensures c.get-in-Binary-2.ensures ∙ sym (outs-Binary c.in-Binary.op c.in-Binary.left c.in-Binary.right) ∙ ap out-Node (sym c.in-Binary.is))

pub range_within-returns-clause-first : goal.range_within-returns-clause-first
range_within-returns-clause-first t c =
    c.range_of_node.ensures.first ∙ ap (λ (r : Range). first_from c.args.first.now r.violations) (sym (one_layer c.args.depth (data_of c.args.declared) c.args.e.now c.if-depth-eq0.false))
