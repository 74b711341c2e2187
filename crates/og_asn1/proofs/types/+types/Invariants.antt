-- Inside a type there is less fuel, and else a part is read by parts that it may hold.
use Rattle.std.proofs.Common.{◌+◌, ◌-◌, ◌*◌}
use Rattle.og_asn1.specs.Reading.{rest_of, next, pushed, more_of}
use Rattle.og_asn1.specs.Trees.{comp_at, type_within}
use Rattle.og_asn1.proofs.Turns.{SoFar}
use Rattle.og_asn1.proofs.types.+types.Given as goal

abbrev pub decreases-type_within : goal.decreases-type_within
decreases-type_within l = 8 * l.fuel + 0

abbrev pub decreases-part_of : goal.decreases-part_of
decreases-part_of l = 8 * l.fuel + 1

abbrev pub decreases-comp_of : goal.decreases-comp_of
decreases-comp_of l = 8 * l.fuel + 2

abbrev pub decreases-more_comps_of : goal.decreases-more_comps_of
decreases-more_comps_of l = 8 * l.fuel + 3

abbrev pub decreases-comps_of : goal.decreases-comps_of
decreases-comps_of l = 8 * l.fuel + 4

abbrev pub decreases-maybe_comps_of : goal.decreases-maybe_comps_of
decreases-maybe_comps_of l = 8 * l.fuel + 5

abbrev pub decreases-of_of : goal.decreases-of_of
decreases-of_of l = 8 * l.fuel + 1

abbrev pub decreases-choice_of : goal.decreases-choice_of
decreases-choice_of l = 8 * l.fuel + 6

abbrev pub decreases-sequence_of : goal.decreases-sequence_of
decreases-sequence_of l = 8 * l.fuel + 6

abbrev pub decreases-set_of : goal.decreases-set_of
decreases-set_of l = 8 * l.fuel + 6

abbrev pub decreases-base_of : goal.decreases-base_of
decreases-base_of l = 8 * l.fuel + 7

abbrev pub invariant-more_comps_of-loop : goal.invariant-more_comps_of-loop
invariant-more_comps_of-loop l =
    SoFar (pushed (next (comp_at (type_within l.fuel)))) l.comps (l.end - l.counter) (rest_of l.left) (more_of (next (comp_at (type_within l.fuel))) l.fn.first (rest_of l.from))
