use Rattle.std.proofs.Common.{◌≡◌, ◌++◌, filter}
use Rattle.std.specs.List.{range_with_len}
use Rattle.og_data.specs.Order.{is_new}
use Rattle.og_data.proofs.order.add_deeper.Given as goal

abbrev pub invariant-loop-place : goal.invariant-loop-place
invariant-loop-place l = l.types.items ≡ l.initial.types.items ++ filter (is_new l.known.limited.valued.scope.flat l.within l.next) (range_with_len 0 l.place)
