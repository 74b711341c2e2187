use Rattle.std.proofs.Common.{◌≡◌, map, take}
use Rattle.og_tool.specs.Answers.{as_word}
use Rattle.og_words.specs.Asked.{texts}
use Rattle.og_tool.proofs.running.words_of.Given as goal

abbrev pub invariant-loop-file : goal.invariant-loop-file
invariant-loop-file l = l.words.items ≡ map as_word (texts (take l.file-index l.files))
