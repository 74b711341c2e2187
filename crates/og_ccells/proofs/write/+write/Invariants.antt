use Rattle.std.proofs.Common.{◌≡◌, ◌-◌, ◌+◌, ◌*◌, drop}
use Rattle.og_ir.specs.Reading.{blank_within, write_within, write_parts, write_items, write_alternatives}
use Rattle.og_ccells.specs.Vectors.{put_cells}
use Rattle.og_ccells.proofs.Writing.{alternatives_from}
use Rattle.og_ccells.proofs.write.+write.Given as goal

abbrev pub invariant-write_parts-loop-number : goal.invariant-write_parts-loop-number
invariant-write_parts-loop-number l =
    put_cells l.at (write_parts (blank_within l.depth l.sorts) (write_within l.depth l.sorts) (drop l.number l.parts) (drop l.number l.values)) l.cells.items
    ≡ put_cells l.place (write_parts (blank_within l.depth l.sorts) (write_within l.depth l.sorts) l.parts l.values) l.fn.cells.items

abbrev pub invariant-write_alternatives-loop-number : goal.invariant-write_alternatives-loop-number
invariant-write_alternatives-loop-number l =
    put_cells l.at (alternatives_from (blank_within l.depth l.sorts) (write_within l.depth l.sorts) l.number l.chosen l.value (drop l.number l.parts)) l.cells.items
    ≡ put_cells l.place (alternatives_from (blank_within l.depth l.sorts) (write_within l.depth l.sorts) 0 l.chosen l.value l.parts) l.fn.cells.items

abbrev pub invariant-write_items-loop-number : goal.invariant-write_items-loop-number
invariant-write_items-loop-number l =
    put_cells l.at (write_items (blank_within l.depth l.sorts l.item) (write_within l.depth l.sorts l.item) (l.hi - l.number) (drop l.number l.values)) l.cells.items
    ≡ put_cells l.place (write_items (blank_within l.depth l.sorts l.item) (write_within l.depth l.sorts l.item) l.hi l.values) l.fn.cells.items

abbrev pub decreases-write_within : goal.decreases-write_within
decreases-write_within l = 5 * l.depth

abbrev pub decreases-write_at : goal.decreases-write_at
decreases-write_at l = 5 * l.depth + 1

abbrev pub decreases-write_alternative : goal.decreases-write_alternative
decreases-write_alternative l = 5 * l.depth + 1

abbrev pub decreases-write_parts : goal.decreases-write_parts
decreases-write_parts l = 5 * l.depth + 2

abbrev pub decreases-write_alternatives : goal.decreases-write_alternatives
decreases-write_alternatives l = 5 * l.depth + 2

abbrev pub decreases-write_items : goal.decreases-write_items
decreases-write_items l = 5 * l.depth + 2

abbrev pub decreases-write_sequence : goal.decreases-write_sequence
decreases-write_sequence l = 5 * l.depth + 3

abbrev pub decreases-write_choice : goal.decreases-write_choice
decreases-write_choice l = 5 * l.depth + 3

abbrev pub decreases-write_seq_of : goal.decreases-write_seq_of
decreases-write_seq_of l = 5 * l.depth + 3

abbrev pub decreases-write_sort : goal.decreases-write_sort
decreases-write_sort l = 5 * l.depth + 4
