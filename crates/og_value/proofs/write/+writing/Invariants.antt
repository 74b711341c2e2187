use Rattle.std.proofs.Common.{◌+◌, ◌*◌, ◌++◌, map, drop}
use Rattle.og_value.specs.Shows.{text_within, part_texts, separated}
use Rattle.og_value.proofs.Written.{Writes, parts_from}
use Rattle.og_value.proofs.write.+writing.Given as goal

abbrev pub decreases-put_value : goal.decreases-put_value
decreases-put_value l = 4 * l.depth

abbrev pub decreases-put_sort : goal.decreases-put_sort
decreases-put_sort l = 4 * l.depth + 3

abbrev pub decreases-put_alternative : goal.decreases-put_alternative
decreases-put_alternative l = 4 * l.depth + 1

abbrev pub decreases-put_part : goal.decreases-put_part
decreases-put_part l = 4 * l.depth + 1

abbrev pub decreases-put_parts : goal.decreases-put_parts
decreases-put_parts l = 4 * l.depth + 2

abbrev pub decreases-put_items : goal.decreases-put_items
decreases-put_items l = 4 * l.depth + 2

abbrev pub invariant-put_parts-loop-place : goal.invariant-put_parts-loop-place
invariant-put_parts-loop-place l =
    Writes l.fn.out.items l.out.items l.place (parts_from (text_within l.depth l.sorts l.names) l.names l.parts l.values l.place)
    (l.fn.out.items ++ separated (part_texts (text_within l.depth l.sorts l.names) l.names l.parts l.values))

abbrev pub invariant-put_items-loop-place : goal.invariant-put_items-loop-place
invariant-put_items-loop-place l =
    Writes l.fn.out.items l.out.items l.place (map (text_within l.depth l.sorts l.names l.item) (drop l.place l.values))
    (l.fn.out.items ++ separated (map (text_within l.depth l.sorts l.names l.item) l.values))
