use Rattle.std.proofs.Common.{◌≡◌, ◌+◌, ◌*◌, take, map, replicate}
use Rattle.og_types.specs.Values.{first_within}
use Rattle.og_types.proofs.first.+first.Given as goal

abbrev pub decreases-first_within : goal.decreases-first_within
decreases-first_within l = 3 * l.depth

abbrev pub decreases-first_of_sort : goal.decreases-first_of_sort
decreases-first_of_sort l = 3 * l.depth + 2

abbrev pub decreases-first_of_parts : goal.decreases-first_of_parts
decreases-first_of_parts l = 3 * l.depth + 1

abbrev pub decreases-first_alternative : goal.decreases-first_alternative
decreases-first_alternative l = 3 * l.depth + 1

abbrev pub decreases-first_items : goal.decreases-first_items
decreases-first_items l = 3 * l.depth + 1

abbrev pub invariant-first_of_parts-loop-part : goal.invariant-first_of_parts-loop-part
invariant-first_of_parts-loop-part l = l.values ≡ map (λ part. first_within l.depth l.sorts part.sort) (take l.part-index l.parts)

abbrev pub invariant-first_items-loop-place : goal.invariant-first_items-loop-place
invariant-first_items-loop-place l = l.values ≡ replicate l._place (first_within l.depth l.sorts l.item)
