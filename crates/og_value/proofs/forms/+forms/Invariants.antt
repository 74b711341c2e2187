use Rattle.std.proofs.Common.{◌+◌, ◌*◌, ◌-◌, length}
use Rattle.og_value.specs.Scans.{past_all, comma_by, part_by, form_at}
use Rattle.og_value.proofs.Steps.{Passes}
use Rattle.og_value.proofs.forms.+forms.Given as goal

abbrev pub decreases-form_at : goal.decreases-form_at
decreases-form_at l = 8 * l.depth + 1

abbrev pub decreases-past_word : goal.decreases-past_word
decreases-past_word l = 8 * l.depth

abbrev pub decreases-colon_at : goal.decreases-colon_at
decreases-colon_at l = 8 * l.depth + 2

abbrev pub decreases-part_at : goal.decreases-part_at
decreases-part_at l = 8 * l.depth + 2

abbrev pub decreases-comma_item : goal.decreases-comma_item
decreases-comma_item l = 8 * l.depth + 2

abbrev pub decreases-comma_part : goal.decreases-comma_part
decreases-comma_part l = 8 * l.depth + 3

abbrev pub decreases-past_items : goal.decreases-past_items
decreases-past_items l = 8 * l.depth + 4

abbrev pub decreases-past_parts : goal.decreases-past_parts
decreases-past_parts l = 8 * l.depth + 4

abbrev pub decreases-braces_at : goal.decreases-braces_at
decreases-braces_at l = 8 * l.depth + 5

abbrev pub invariant-past_items-loop : goal.invariant-past_items-loop
invariant-past_items-loop l =
    Passes (comma_by (form_at l.depth)) (length l.bytes - l.counter) l.rest (past_all (comma_by (form_at l.depth)) (length l.bytes) l.bytes)

abbrev pub invariant-past_parts-loop : goal.invariant-past_parts-loop
invariant-past_parts-loop l =
    Passes (comma_by (part_by (form_at l.depth))) (length l.bytes - l.counter) l.rest
    (past_all (comma_by (part_by (form_at l.depth))) (length l.bytes) l.bytes)
