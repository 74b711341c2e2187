use Rattle.std.proofs.Common.{◌+◌, ◌≤◌, map}
use Rattle.og_csubset.specs.Kinds.{total}
use Rattle.og_names.proofs.Loops.{Left}
use Rattle.og_ccells.specs.declared.layout.Extent.{Extent}
use Rattle.og_ccells.specs.Layouts.{capped}
use Rattle.og_ccells.proofs.Widths.{most}
use Rattle.og_ccells.proofs.first.cells_in.Given as goal

abbrev pub invariant-loop-extent : goal.invariant-loop-extent
invariant-loop-extent l =
    (l.count ≤ most)
    × Left (λ ys. capped (l.count + total (map (λ (e : Extent). e.width) ys))) l.extents l.extent-index (capped (total (map (λ (e : Extent). e.width) l.extents)))
