-- Inside a bracket there is less fuel.
use Rattle.std.proofs.Common.{◌+◌, ◌-◌, ◌*◌}
use Rattle.og_asn1.specs.Reading.{rest_of, behind_item, behind_items, passed}
use Rattle.og_asn1.proofs.Turns.{PassedSoFar}
use Rattle.og_asn1.proofs.run.+items.Given as goal

abbrev pub decreases-behind_items : goal.decreases-behind_items
decreases-behind_items l = 4 * l.fuel

abbrev pub decreases-behind_each : goal.decreases-behind_each
decreases-behind_each l = 4 * l.fuel + 2

abbrev pub decreases-behind_item : goal.decreases-behind_item
decreases-behind_item l = 4 * l.fuel + 1

abbrev pub invariant-behind_each-loop : goal.invariant-behind_each-loop
invariant-behind_each-loop l = PassedSoFar (behind_item (behind_items l.fuel)) (l.end - l.counter) (rest_of l.left) (passed (behind_item (behind_items l.fuel)) (rest_of l.from))
