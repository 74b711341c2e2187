use Rattle.og_dataview.specs.Following.{both}
use Rattle.og_dataview.specs.Ways.{step_in}
use Rattle.og_dataview.proofs.Tables.{tabulated_more}
use Rattle.og_datatypes.specs.Kept.{range_at}
use Rattle.og_datatypes.proofs.ranges.both_ranges.Goals as goal

pub loop-place-preserved : goal.loop-place-preserved
loop-place-preserved c =
    tabulated_more (λ p. both (range_at c.args.ranges.now p) (range_at c.args.further.now (step_in c.args.ends.now p))) _ _ _ _ c.in_ok-push.ensures.items c.both_at.ensures c.loop-place.invariant
