use Rattle.std.proofs.Common.{take}
use Rattle.og_judge.specs.Judging.{sources, AreModulesOf}
use Rattle.og_judge.proofs.trees.modules_of.Given as goal

abbrev pub invariant-loop-number : goal.invariant-loop-number
invariant-loop-number l = AreModulesOf 0 (sources (take l.number l.files)) l.modules
