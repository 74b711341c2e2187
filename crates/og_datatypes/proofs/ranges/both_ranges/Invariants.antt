use Rattle.og_dataview.specs.Following.{both}
use Rattle.og_dataview.specs.Ways.{step_in}
use Rattle.og_dataview.proofs.Tables.{Tabulated}
use Rattle.og_datatypes.specs.Kept.{range_at}
use Rattle.og_datatypes.proofs.ranges.both_ranges.Given as goal

abbrev pub invariant-loop-place : goal.invariant-loop-place
invariant-loop-place l = Tabulated (λ p. both (range_at l.ranges p) (range_at l.further (step_in l.ends p))) l.list.items l.place
