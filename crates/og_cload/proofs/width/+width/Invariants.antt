use Rattle.std.proofs.Common.{◌+◌, ◌*◌, ◌≤◌, map}
use Rattle.og_csubset.specs.declared.CMember.{CMember}
use Rattle.og_csubset.specs.Kinds.{width_within, total, times}
use Rattle.og_cload.specs.Widths.{many, capped}
use Rattle.og_names.proofs.Loops.{Left}
use Rattle.og_cload.proofs.width.+width.Given as goal

abbrev pub invariant-members_width-loop-member : goal.invariant-members_width-loop-member
invariant-members_width-loop-member l =
    (l.cells ≤ many)
    × Left (λ ys. capped (l.cells + total (map (λ (m : CMember). times m.size (width_within l.depth l.structs m.kind)) ys))) l.members l.member-index
    (capped (total (map (λ (m : CMember). times m.size (width_within l.depth l.structs m.kind)) l.members)))

abbrev pub decreases-width_within : goal.decreases-width_within
decreases-width_within l = 3 * l.depth

abbrev pub decreases-member_width : goal.decreases-member_width
decreases-member_width l = 3 * l.depth + 1

abbrev pub decreases-members_width : goal.decreases-members_width
decreases-members_width l = 3 * l.depth + 2
