use Rattle.og_system.specs.Closing.{branch_closes}
use Rattle.og_system.proofs.Opens.{Closing}
use Rattle.og_system.proofs.ends.+closing.Given as goal

abbrev pub invariant-branches_close-loop-branch : goal.invariant-branches_close-loop-branch
invariant-branches_close-loop-branch l = Closing branch_closes l.branches l.branch-index
