-- Inside a value there is less fuel.
use Rattle.std.proofs.Common.{◌+◌, ◌*◌}
use Rattle.og_asn1.proofs.value.+values.Given as goal

abbrev pub decreases-value_within : goal.decreases-value_within
decreases-value_within l = 4 * l.fuel

abbrev pub decreases-node_of : goal.decreases-node_of
decreases-node_of l = 4 * l.fuel + 3

abbrev pub decreases-named_of : goal.decreases-named_of
decreases-named_of l = 4 * l.fuel + 2

abbrev pub decreases-chosen_of : goal.decreases-chosen_of
decreases-chosen_of l = 4 * l.fuel + 1
