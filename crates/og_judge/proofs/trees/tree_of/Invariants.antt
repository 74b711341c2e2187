use Rattle.std.proofs.Common.{take}
use Rattle.og_judge.specs.Judging.{sources, AreAsn}
use Rattle.og_judge.proofs.trees.tree_of.Given as goal

abbrev pub invariant-loop-number : goal.invariant-loop-number
invariant-loop-number l = AreAsn (sources (take l.number l.files))
