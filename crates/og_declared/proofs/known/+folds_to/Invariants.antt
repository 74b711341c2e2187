use Rattle.std.proofs.Common.{length}
use Rattle.og_declared.proofs.known.+folds_to.Given as goal

abbrev pub decreases-folds_to : goal.decreases-folds_to
decreases-folds_to l = length l.name.now
