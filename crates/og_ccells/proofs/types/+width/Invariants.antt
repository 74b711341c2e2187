use Rattle.std.proofs.Common.{◌+◌, ◌*◌, ◌≤◌, map}
use Rattle.og_types.specs.declared.Part.{Part}
use Rattle.og_ir.specs.Cells.{count}
use Rattle.og_ir.specs.Reading.{blank_within}
use Rattle.og_csubset.specs.Kinds.{total}
use Rattle.og_names.proofs.Loops.{Left}
use Rattle.og_ccells.specs.Layouts.{counted}
use Rattle.og_ccells.proofs.TypeWidths.{most}
use Rattle.og_ccells.proofs.types.+width.Given as goal

abbrev pub invariant-width_parts-loop-part : goal.invariant-width_parts-loop-part
invariant-width_parts-loop-part l =
    (l.width ≤ most)
    × Left (λ ys. counted (l.width + total (map (λ (p : Part). count (blank_within l.depth l.sorts p.sort)) ys))) l.parts l.part-index
    (counted (total (map (λ (p : Part). count (blank_within l.depth l.sorts p.sort)) l.parts)))

abbrev pub decreases-width_within : goal.decreases-width_within
decreases-width_within l = 4 * l.depth

abbrev pub decreases-width_parts : goal.decreases-width_parts
decreases-width_parts l = 4 * l.depth + 1

abbrev pub decreases-width_sequence : goal.decreases-width_sequence
decreases-width_sequence l = 4 * l.depth + 2

abbrev pub decreases-width_sort : goal.decreases-width_sort
decreases-width_sort l = 4 * l.depth + 3
