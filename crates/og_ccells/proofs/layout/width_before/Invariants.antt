use Rattle.std.proofs.Common.{◌+◌, ◌≤◌}
use Rattle.og_names.proofs.Loops.{Left}
use Rattle.og_ccells.proofs.Widths.{most}
use Rattle.og_ccells.specs.Layouts.{capped, width_before}
use Rattle.og_ccells.proofs.layout.width_before.Given as goal

abbrev pub invariant-loop-member : goal.invariant-loop-member
invariant-loop-member l =
    (l.width ≤ most) × Left (λ ys. capped (l.width + width_before l.structs l.name ys)) l.members l.member-index (capped (width_before l.structs l.name l.members))
