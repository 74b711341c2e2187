use Rattle.og_ranges.proofs.Reached.{sums_reach, differences_reach, signs_reach, products_reach}
use Rattle.og_ranges.proofs.laws.ends_are_reached.Goals as goal

pub returns : goal.returns
returns c = record { sums = sums_reach; differences = differences_reach; signs = signs_reach; products = products_reach }
