use Rattle.std.proofs.Common.{sym, ◌∙◌}
use Rattle.og_model.specs.declared.Partition.{out-Partition}
use Rattle.og_model.specs.Regions.{insides_of, state_insides, states_insides}
use Rattle.og_regions.specs.Placed.{regions_at}
use Rattle.og_regions.proofs.Placing.{gathered_next, gathers_regions, scope_regions_end, composite_regions, partition_next, aggregation_regions, leaves_gathered, region_followed}
use Rattle.og_regions.proofs.partitions.+regions.Goals as goal

pub scope_regions-loop-state-preserved : goal.scope_regions-loop-state-preserved
scope_regions-loop-state-preserved t c =
    let path = c.args.path.now in
    gathered_next (λ d. regions_at path (state_insides insides_of d).regions) (λ ds. regions_at path (states_insides insides_of ds).regions)
    (gathers_regions path) c.as_slice-state-items.result.now c.loop-state.state-index c.state-item.result c.args.regions.now c.loop-state.regions c.state_regions.new.regions
    c.loop-state-test.true c.state-item.is c.loop-state.invariant c.in_ok-state_regions.ensures

pub scope_regions-returns : goal.scope_regions-returns
scope_regions-returns t c =
    scope_regions_end c.args.path.now c.args.scope.now c.as_slice-state-items.result.now c.loop-state.state-index c.args.regions.now c.loop-state.regions
    c.as_slice-state-items.ensures c.loop-state-test.false c.loop-state.auto.state-index-end c.loop-state.invariant

pub state_regions-returns-in_ok-scope_regions-in-Composite : goal.state_regions-returns-in_ok-scope_regions-in-Composite
state_regions-returns-in_ok-scope_regions-in-Composite t c =
    composite_regions c.args.path.now c.as_slice.result.now c.args.state.now.name c.args.state.now.kind c.in-Composite.entry c.in-Composite.exit c.in-Composite.inner
    c.args.regions.now c.scope_regions.new.regions c.in-Composite.is (c.as_slice.ensures ∙ c.in_ok-longer-in-Composite.ensures) c.in_ok-scope_regions-in-Composite.ensures

pub state_regions-loop-partition-preserved : goal.state_regions-loop-partition-preserved
state_regions-loop-partition-preserved t c =
    partition_next c.longer-in-Aggregation.inside.items.items c.as_slice-in-loop-partition.result.now c.as_slice-partition-items.result.now c.loop-partition.partition-index
    c.partition-item.result c.args.regions.now c.loop-partition.regions c.one_partition.new.regions c.loop-partition-test.true c.partition-item.is c.loop-partition.invariant
    (c.as_slice-in-loop-partition.ensures ∙ sym c.longer-in-Aggregation.view_is) c.in_ok-one_partition-in-Aggregation.ensures

pub state_regions-returns-after-loop-partition : goal.state_regions-returns-after-loop-partition
state_regions-returns-after-loop-partition t c =
    aggregation_regions c.args.path.now c.longer-in-Aggregation.inside.items.items c.args.state.now.name c.args.state.now.kind c.in-Aggregation.entry c.in-Aggregation.exit
    c.in-Aggregation.partitions c.as_slice-partition-items.result.now c.loop-partition.partition-index c.args.regions.now c.loop-partition.regions c.in-Aggregation.is
    (c.longer-in-Aggregation.view_is ∙ c.in_ok-longer-in-Aggregation.ensures) c.as_slice-partition-items.ensures c.loop-partition-test.false
    c.loop-partition.auto.partition-index-end c.loop-partition.invariant

pub one_partition-returns : goal.one_partition-returns
one_partition-returns t c =
    region_followed c.args.path.now c.in_ok-own.own c.as_slice-2.result.now c.args.partition.now (insides_of (out-Partition c.args.partition.now).inner)
    c.scope_leaves.new.leaves c.args.regions.now c.push.new.self c.scope_regions.new.regions
    c.in_ok-own.ensures (c.as_slice-2.ensures ∙ c.in_ok-longer.ensures)
    (leaves_gathered c.as_slice.result.now (insides_of (out-Partition c.args.partition.now).inner) c.new-leaves.result c.scope_leaves.new.leaves
    (c.as_slice.ensures ∙ c.new-outer.ensures) c.new-leaves.ensures c.in_ok-scope_leaves.ensures)
    c.in_ok-push.ensures.ok c.in_ok-scope_regions.ensures
