use Rattle.std.proofs.Common.{arith}
use Rattle.og_data.proofs.Orders.{ordered_more, ordered_all}
use Rattle.og_data.proofs.order.by_depth.Goals as goal

pub loop-depth-preserved : goal.loop-depth-preserved
loop-depth-preserved c =
    ordered_more c.args.known.now.limited.valued.scope.flat c.loop-depth._depth c.loop-depth.types.items c.add_deeper.new.types.items c.loop-depth.supported.items c.as_slice.result.now
    c.as_slice-in-loop-depth.result.now c.in_ok-next.next.items c.as_slice-in-loop-depth-2.result.now c.as_slice.ensures.value c.as_slice-in-loop-depth.ensures.value
    c.as_slice-in-loop-depth-2.ensures.value c.in_ok-next.ensures c.in_ok-add_deeper.ensures c.loop-depth.invariant

pub returns : goal.returns
returns c =
    ordered_all c.args.known.now.limited.valued.scope.flat c.loop-depth._depth c.loop-depth.types.items c.loop-depth.supported.items (omega (arith, c.loop-depth-test.false))
    (omega (arith, c.loop-depth.auto._depth-end)) c.loop-depth.invariant
