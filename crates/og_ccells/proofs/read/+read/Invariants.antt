use Rattle.std.proofs.Common.{◌+◌, ◌*◌}
use Rattle.og_ir.specs.Cells.{equal_parts}
use Rattle.og_ir.specs.Reading.{read_within, read_items, blank_within}
use Rattle.og_names.proofs.Loops.{Left}
use Rattle.og_ccells.specs.Vectors.{filled}
use Rattle.og_ccells.proofs.Valued.{ItemsLeft, parts_read, with_front}
use Rattle.og_ccells.proofs.read.+read.Given as goal

abbrev pub invariant-read_parts-loop-part : goal.invariant-read_parts-loop-part
invariant-read_parts-loop-part l =
    Left (λ ys. with_front l.values (parts_read (read_within l.depth l.sorts) (blank_within l.depth l.sorts) l.cells l.at ys)) l.parts l.part-index
    (parts_read (read_within l.depth l.sorts) (blank_within l.depth l.sorts) l.cells l.place l.parts)

abbrev pub invariant-read_items-loop-number : goal.invariant-read_items-loop-number
invariant-read_items-loop-number l =
    ItemsLeft (read_within l.depth l.sorts l.item) (blank_within l.depth l.sorts l.item) l.cells l.count l.size l.values l.at l.number
    (read_items (read_within l.depth l.sorts l.item) l.count (filled l.place (equal_parts l.size (blank_within l.depth l.sorts l.item)) l.cells))

abbrev pub decreases-read_within : goal.decreases-read_within
decreases-read_within l = 5 * l.depth

abbrev pub decreases-read_parts : goal.decreases-read_parts
decreases-read_parts l = 5 * l.depth + 1

abbrev pub decreases-read_items : goal.decreases-read_items
decreases-read_items l = 5 * l.depth + 1

abbrev pub decreases-read_seq_of : goal.decreases-read_seq_of
decreases-read_seq_of l = 5 * l.depth + 2

abbrev pub decreases-read_choice : goal.decreases-read_choice
decreases-read_choice l = 5 * l.depth + 2

abbrev pub decreases-read_sequence : goal.decreases-read_sequence
decreases-read_sequence l = 5 * l.depth + 2

abbrev pub decreases-read_sort : goal.decreases-read_sort
decreases-read_sort l = 5 * l.depth + 3
