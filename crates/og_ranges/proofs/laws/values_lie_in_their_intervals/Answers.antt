use Rattle.og_ranges.proofs.Valued.{values_lie}
use Rattle.og_ranges.proofs.laws.values_lie_in_their_intervals.Goals as goal

pub returns : goal.returns
returns c = values_lie
