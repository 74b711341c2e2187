use Rattle.std.proofs.Common.{length}
use Rattle.og_system.proofs.known.+fold_alike.Given as goal

abbrev pub decreases-fold_alike : goal.decreases-fold_alike
decreases-fold_alike l = length l.a.now
