use Rattle.std.proofs.Common.{◌∙◌}
use Rattle.og_model.specs.Regions.{insides_of, state_insides, states_insides}
use Rattle.og_regions.specs.Placed.{leaves_at}
use Rattle.og_regions.proofs.Placing.{gathered_next, gathers_leaves, scope_leaves_end, composite_leaves}
use Rattle.og_regions.proofs.leaves.+leaves.Goals as goal

pub scope_leaves-loop-state-preserved : goal.scope_leaves-loop-state-preserved
scope_leaves-loop-state-preserved t c =
    let path = c.args.path.now in
    gathered_next (λ d. leaves_at path (state_insides insides_of d).leaves) (λ ds. leaves_at path (states_insides insides_of ds).leaves)
    (gathers_leaves path) c.as_slice-state-items.result.now c.loop-state.state-index c.state-item.result c.args.leaves.now c.loop-state.leaves c.state_leaves.new.leaves
    c.loop-state-test.true c.state-item.is c.loop-state.invariant c.in_ok-state_leaves.ensures

pub scope_leaves-returns : goal.scope_leaves-returns
scope_leaves-returns t c =
    scope_leaves_end c.args.path.now c.args.scope.now c.as_slice-state-items.result.now c.loop-state.state-index c.args.leaves.now c.loop-state.leaves
    c.as_slice-state-items.ensures c.loop-state-test.false c.loop-state.auto.state-index-end c.loop-state.invariant

pub state_leaves-returns-in_ok-scope_leaves-in-Composite : goal.state_leaves-returns-in_ok-scope_leaves-in-Composite
state_leaves-returns-in_ok-scope_leaves-in-Composite t c =
    composite_leaves c.args.path.now c.as_slice.result.now c.args.state.now.name c.args.state.now.kind c.in-Composite.entry c.in-Composite.exit c.in-Composite.scope
    c.args.leaves.now c.scope_leaves.new.leaves c.in-Composite.is (c.as_slice.ensures ∙ c.in_ok-inner.ensures) c.in_ok-scope_leaves-in-Composite.ensures
