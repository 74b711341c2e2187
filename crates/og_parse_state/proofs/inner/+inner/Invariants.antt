-- What stands in a state is read with less fuel inside another one, and each other part by fewer of the parts that it may hold.
use Rattle.std.proofs.Common.{ℕ, ◌+◌, ◌-◌, ◌*◌, []}
use Rattle.og_reading.specs.Reading.{rest_of, pushed, more_of}
use Rattle.og_reading.proofs.Turns.{SoFar}
use Rattle.og_parse_state.specs.Reading.{inner_at, partition_at}
use Rattle.og_parse_state.proofs.inner.+inner.Given as goal

abbrev pub decreases-inner_of : goal.decreases-inner_of
decreases-inner_of l = 16 * l.fuel + 0

abbrev pub decreases-inners_of : goal.decreases-inners_of
decreases-inners_of l = 16 * l.fuel + 1

abbrev pub decreases-composite_body_of : goal.decreases-composite_body_of
decreases-composite_body_of l = 16 * l.fuel + 2

abbrev pub decreases-first_composite_of : goal.decreases-first_composite_of
decreases-first_composite_of l = 16 * l.fuel + 3

abbrev pub decreases-one_state_of : goal.decreases-one_state_of
decreases-one_state_of l = 16 * l.fuel + 3

abbrev pub decreases-partition_of : goal.decreases-partition_of
decreases-partition_of l = 16 * l.fuel + 4

abbrev pub decreases-partitions_of : goal.decreases-partitions_of
decreases-partitions_of l = 16 * l.fuel + 5

abbrev pub decreases-aggregated_of : goal.decreases-aggregated_of
decreases-aggregated_of l = 16 * l.fuel + 6

abbrev pub decreases-aggregation_body_of : goal.decreases-aggregation_body_of
decreases-aggregation_body_of l = 16 * l.fuel + 7

abbrev pub decreases-aggregation_of : goal.decreases-aggregation_of
decreases-aggregation_of l = 16 * l.fuel + 8

abbrev pub decreases-after_one_of : goal.decreases-after_one_of
decreases-after_one_of l = 16 * l.fuel + 3

abbrev pub decreases-after_state_name_of : goal.decreases-after_state_name_of
decreases-after_state_name_of l = 16 * l.fuel + 4

abbrev pub decreases-state_of : goal.decreases-state_of
decreases-state_of l = 16 * l.fuel + 9

abbrev pub decreases-inner_by : goal.decreases-inner_by
decreases-inner_by l = 16 * l.fuel + 10

abbrev pub invariant-inners_of-loop : goal.invariant-inners_of-loop
invariant-inners_of-loop l = SoFar (pushed (inner_at l.fuel)) l.parts (l.end - l.counter) (rest_of l.rest) (more_of (inner_at l.fuel) [] (rest_of l.from))

abbrev pub invariant-partitions_of-loop : goal.invariant-partitions_of-loop
invariant-partitions_of-loop l =
    SoFar (pushed (partition_at l.fuel (inner_at l.fuel))) l.parts (l.end - l.counter) (rest_of l.rest) (more_of (partition_at l.fuel (inner_at l.fuel)) l.fn.first (rest_of l.from))
