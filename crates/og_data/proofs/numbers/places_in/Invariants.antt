use Rattle.std.proofs.Common.{◌-◌}
use Rattle.og_data.specs.Order.{Placed}
use Rattle.og_data.proofs.numbers.places_in.Given as goal

abbrev pub invariant-loop-back : goal.invariant-loop-back
invariant-loop-back l = Placed l.order l.nodes (l.count - l.back) l.numbers.items
