use Rattle.std.proofs.Common.{◌+◌, ◌*◌, ◌-◌, length}
use Rattle.og_value.specs.Scans.{comma_by, each_by, components_by, value_at}
use Rattle.og_value.specs.Answers.{with_front}
use Rattle.og_value.proofs.Turns.{SoFar, Through}
use Rattle.og_value.proofs.values.+values.Given as goal

abbrev pub decreases-value_at : goal.decreases-value_at
decreases-value_at l = 8 * l.depth + 2

abbrev pub decreases-sorted_at : goal.decreases-sorted_at
decreases-sorted_at l = 8 * l.depth + 1

abbrev pub decreases-worded_at : goal.decreases-worded_at
decreases-worded_at l = 8 * l.depth

abbrev pub decreases-alternative_at : goal.decreases-alternative_at
decreases-alternative_at l = 8 * l.depth + 3

abbrev pub decreases-component_at : goal.decreases-component_at
decreases-component_at l = 8 * l.depth + 3

abbrev pub decreases-comma_component : goal.decreases-comma_component
decreases-comma_component l = 8 * l.depth + 4

abbrev pub decreases-components_at : goal.decreases-components_at
decreases-components_at l = 8 * l.depth + 5

abbrev pub decreases-sequence_at : goal.decreases-sequence_at
decreases-sequence_at l = 8 * l.depth + 6

abbrev pub decreases-comma_item : goal.decreases-comma_item
decreases-comma_item l = 8 * l.depth + 3

abbrev pub decreases-further_items : goal.decreases-further_items
decreases-further_items l = 8 * l.depth + 4

abbrev pub decreases-items_at : goal.decreases-items_at
decreases-items_at l = 8 * l.depth + 5

abbrev pub decreases-inside_at : goal.decreases-inside_at
decreases-inside_at l = 8 * l.depth + 7

abbrev pub invariant-components_at-loop-part : goal.invariant-components_at-loop-part
invariant-components_at-loop-part l =
    Through (value_at l.depth l.sorts l.names) l.names l.values l.parts l.part-index l.rest
    (with_front l.fn.before (components_by (value_at l.depth l.sorts l.names) l.names l.parts l.bytes))

abbrev pub invariant-further_items-loop : goal.invariant-further_items-loop
invariant-further_items-loop l =
    SoFar (comma_by (value_at l.depth l.sorts l.names l.item)) l.values (length l.bytes - l.counter) l.rest
    (with_front l.fn.before (each_by (comma_by (value_at l.depth l.sorts l.names l.item)) (length l.bytes) l.bytes))
