use Rattle.std.proofs.Common.{◌+◌, ◌≤◌, map}
use Rattle.og_csubset.specs.declared.CMember.{CMember}
use Rattle.og_csubset.specs.Kinds.{total, times}
use Rattle.og_names.proofs.Loops.{Left}
use Rattle.og_ccells.proofs.Widths.{most}
use Rattle.og_ccells.specs.Layouts.{capped, known_width}
use Rattle.og_ccells.proofs.layout.members_width.Given as goal

abbrev pub invariant-loop-member : goal.invariant-loop-member
invariant-loop-member l =
    (l.width ≤ most)
    × Left (λ ys. capped (l.width + total (map (λ (m : CMember). times m.size (known_width l.widths l.structs m.kind)) ys))) l.members l.member-index
    (capped (total (map (λ (m : CMember). times m.size (known_width l.widths l.structs m.kind)) l.members)))
