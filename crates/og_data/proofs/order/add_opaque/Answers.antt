use Rattle.og_data.specs.Order.{is_left}
use Rattle.og_data.proofs.Orders.{filtered_more}
use Rattle.og_data.proofs.order.add_opaque.Goals as goal

pub loop-place-preserved : goal.loop-place-preserved
loop-place-preserved c =
    filtered_more (is_left c.args.known.now.limited.valued.scope.flat c.args.supported.now) c.args.types.now.items c.loop-place.types.items c.push_if.new.types.items c.loop-place.place c.is_left.result
    c.in_ok-push_if.ensures c.is_left.ensures c.loop-place.invariant
