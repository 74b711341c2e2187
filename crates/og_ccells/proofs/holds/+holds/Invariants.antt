use Rattle.std.proofs.Common.{◌+◌, ◌*◌, map, is_some}
use Rattle.og_types.specs.declared.Part.{Part}
use Rattle.og_ir.specs.Cells.{row, equal_parts}
use Rattle.og_ir.specs.Reading.{read_within, read_parts, read_items, blank_within}
use Rattle.og_names.proofs.Loops.{Left}
use Rattle.og_ccells.specs.Vectors.{filled}
use Rattle.og_ccells.proofs.Holding.{Elements, parts_held}
use Rattle.og_ccells.proofs.holds.+holds.Given as goal

abbrev pub invariant-holds_parts-loop-part : goal.invariant-holds_parts-loop-part
invariant-holds_parts-loop-part l =
    Left (λ ys. parts_held (read_within l.depth l.sorts) (blank_within l.depth l.sorts) l.cells l.at ys) l.parts l.part-index
    (parts_held (read_within l.depth l.sorts) (blank_within l.depth l.sorts) l.cells l.place l.parts)

abbrev pub invariant-holds_items-loop-number : goal.invariant-holds_items-loop-number
invariant-holds_items-loop-number l =
    Elements (read_within l.depth l.sorts l.item) (blank_within l.depth l.sorts l.item) l.cells l.count l.size l.at l.number
    (is_some (read_items (read_within l.depth l.sorts l.item) l.count (filled l.place (equal_parts l.size (blank_within l.depth l.sorts l.item)) l.cells)))

abbrev pub decreases-holds_within : goal.decreases-holds_within
decreases-holds_within l = 5 * l.depth

abbrev pub decreases-holds_parts : goal.decreases-holds_parts
decreases-holds_parts l = 5 * l.depth + 1

abbrev pub decreases-holds_items : goal.decreases-holds_items
decreases-holds_items l = 5 * l.depth + 1

abbrev pub decreases-holds_seq_of : goal.decreases-holds_seq_of
decreases-holds_seq_of l = 5 * l.depth + 2

abbrev pub decreases-holds_choice : goal.decreases-holds_choice
decreases-holds_choice l = 5 * l.depth + 2

abbrev pub decreases-holds_sequence : goal.decreases-holds_sequence
decreases-holds_sequence l = 5 * l.depth + 2

abbrev pub decreases-holds_sort : goal.decreases-holds_sort
decreases-holds_sort l = 5 * l.depth + 3
