use Rattle.og_ranges.proofs.Within.{have_intervals}
use Rattle.og_ranges.proofs.laws.numbers_have_intervals.Goals as goal

pub returns : goal.returns
returns c = have_intervals
