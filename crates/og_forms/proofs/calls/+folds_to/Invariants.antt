use Rattle.std.proofs.Common.{length}
use Rattle.og_forms.proofs.calls.+folds_to.Given as goal

abbrev pub decreases-folds_to : goal.decreases-folds_to
decreases-folds_to l = length l.name.now
