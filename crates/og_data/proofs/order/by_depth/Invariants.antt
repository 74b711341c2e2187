use Rattle.og_data.specs.Order.{Ordered}
use Rattle.og_data.proofs.order.by_depth.Given as goal

abbrev pub invariant-loop-depth : goal.invariant-loop-depth
invariant-loop-depth l = Ordered l.known.limited.valued.scope.flat l._depth l.types.items l.supported.items
