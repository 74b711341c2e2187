use Rattle.std.proofs.Common.{length}
use Rattle.og_declared.proofs.spaces.+has_two_underscores.Given as goal

abbrev pub decreases-has_two_underscores : goal.decreases-has_two_underscores
decreases-has_two_underscores l = length l.bytes.now
