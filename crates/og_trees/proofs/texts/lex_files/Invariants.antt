use Rattle.std.proofs.Common.{take}
use Rattle.og_trees.specs.Answers.{AreLexed}
use Rattle.og_trees.specs.Reading.{sources}
use Rattle.og_trees.proofs.texts.lex_files.Given as goal

abbrev pub invariant-loop-number : goal.invariant-loop-number
invariant-loop-number l = AreLexed 0 (sources (take l.number l.files)) l.texts.items
