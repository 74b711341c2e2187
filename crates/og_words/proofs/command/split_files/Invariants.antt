use Rattle.std.proofs.Common.{take}
use Rattle.std.specs.List.{AllByRecursion}
use Rattle.og_words.specs.Asked.{texts}
use Rattle.og_words.specs.Words.{IsModelFile}
use Rattle.og_words.proofs.command.split_files.Given as goal

abbrev pub invariant-loop-count : goal.invariant-loop-count
invariant-loop-count l = AllByRecursion IsModelFile (texts (take l.count l.words))
