use Rattle.std.proofs.Common.{arith}
use Rattle.std.proofs.lemmas.Int.{ints}
use Rattle.og_ranges.proofs.Ends.{same_ends}
use Rattle.og_ranges.proofs.operations.sub.Goals as goal

pub returns-clause-value : goal.returns-clause-value
returns-clause-value c = same_ends (omega (arith, ints)) (omega (arith, ints))
