use Rattle.og_data.specs.Order.{is_new}
use Rattle.og_data.proofs.Orders.{filtered_more}
use Rattle.og_data.proofs.order.add_deeper.Goals as goal

pub loop-place-preserved : goal.loop-place-preserved
loop-place-preserved c =
    filtered_more (is_new c.args.known.now.limited.valued.scope.flat c.args.within.now c.args.next.now) c.args.types.now.items c.loop-place.types.items c.push_if.new.types.items c.loop-place.place
    c.is_new.result c.in_ok-push_if.ensures c.is_new.ensures c.loop-place.invariant
