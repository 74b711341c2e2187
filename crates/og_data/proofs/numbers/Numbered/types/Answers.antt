use Rattle.og_data.proofs.InOrder.{next_may, next_added}
use Rattle.og_data.proofs.numbers.Numbered.types.Goals as goal

pub add-requires-clause-behind : goal.add-requires-clause-behind
add-requires-clause-behind c =
    next_may c.args.self.now.known.limited.valued.scope.flat c.args.names.now c.args.self.now.order.types.items c.as_slice-place-items.result.now c.as_slice-place-items.ensures.value
    c.args.self.now.is_order c.loop-place.place-index _ c.loop-place-test.true c.loop-place.types c.in_ok-sort.sort c.requires c.in_ok-sort.ensures.is c.in_ok-sort.ensures.few c.loop-place.invariant

pub loop-place-preserved : goal.loop-place-preserved
loop-place-preserved c =
    next_added c.args.self.now.known.limited.valued.scope.flat c.args.names.now c.args.self.now.order.types.items c.as_slice-place-items.result.now c.as_slice-place-items.ensures.value
    c.args.self.now.is_order c.loop-place.place-index _ c.loop-place-test.true c.loop-place.types c.add.new.self c.in_ok-sort.sort c.requires c.in_ok-sort.ensures.is c.in_ok-sort.ensures.few
    c.in_ok-add.ensures.added c.loop-place.invariant
