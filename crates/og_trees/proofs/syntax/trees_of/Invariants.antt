use Rattle.std.proofs.Common.{take}
use Rattle.og_trees.specs.Reading.{sources, AreTreesOf}
use Rattle.og_trees.proofs.syntax.trees_of.Given as goal

abbrev pub invariant-loop-number : goal.invariant-loop-number
invariant-loop-number l = AreTreesOf (sources (take l.number l.files)) l.trees
