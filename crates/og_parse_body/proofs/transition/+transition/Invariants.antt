-- A transition is read with less fuel inside another one, and each other part by fewer of the parts that it may hold.
use Rattle.std.proofs.Common.{ℕ, ◌+◌, ◌-◌, ◌*◌, [], None}
use Rattle.og_reading.specs.Reading.{rest_of, onto, pushed, more_of}
use Rattle.og_reading.proofs.Turns.{SoFar}
use Rattle.og_parse_body.specs.Reading.{transition_at, onto_step, branch_at}
use Rattle.og_parse_body.proofs.transition.+transition.Given as goal

abbrev pub decreases-keyed_of : goal.decreases-keyed_of
decreases-keyed_of l = 16 * l.fuel + 4

abbrev pub decreases-action_of : goal.decreases-action_of
decreases-action_of l = 16 * l.fuel + 5

abbrev pub decreases-branch_of : goal.decreases-branch_of
decreases-branch_of l = 16 * l.fuel + 1

abbrev pub decreases-branches_of : goal.decreases-branches_of
decreases-branches_of l = 16 * l.fuel + 2

abbrev pub decreases-decision_of : goal.decreases-decision_of
decreases-decision_of l = 16 * l.fuel + 3

abbrev pub decreases-maybe_otherwise : goal.decreases-maybe_otherwise
decreases-maybe_otherwise l = 16 * l.fuel + 2

abbrev pub decreases-onto_step : goal.decreases-onto_step
decreases-onto_step l = 16 * l.fuel + 8

abbrev pub decreases-otherwise_of : goal.decreases-otherwise_of
decreases-otherwise_of l = 16 * l.fuel + 1

abbrev pub decreases-step_of : goal.decreases-step_of
decreases-step_of l = 16 * l.fuel + 7

abbrev pub decreases-steps_of : goal.decreases-steps_of
decreases-steps_of l = 16 * l.fuel + 9

abbrev pub decreases-transition_of : goal.decreases-transition_of
decreases-transition_of l = 16 * l.fuel + 0

abbrev pub decreases-unlabelled_of : goal.decreases-unlabelled_of
decreases-unlabelled_of l = 16 * l.fuel + 6

abbrev pub invariant-steps_of-loop : goal.invariant-steps_of-loop
invariant-steps_of-loop l =
    SoFar (onto_step l.fuel (transition_at l.fuel)) l.so_far (l.end - l.counter) (rest_of l.rest) (onto (onto_step l.fuel (transition_at l.fuel)) ([], None) (rest_of l.from))

abbrev pub invariant-branches_of-loop : goal.invariant-branches_of-loop
invariant-branches_of-loop l =
    SoFar (pushed (branch_at (transition_at l.fuel))) l.branches (l.end - l.counter) (rest_of l.rest) (more_of (branch_at (transition_at l.fuel)) [] (rest_of l.from))
