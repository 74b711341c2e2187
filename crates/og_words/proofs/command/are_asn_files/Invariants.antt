use Rattle.std.proofs.Common.{take}
use Rattle.std.specs.List.{AllByRecursion}
use Rattle.og_words.specs.Asked.{texts}
use Rattle.og_words.specs.Words.{IsAsnFile}
use Rattle.og_words.proofs.command.are_asn_files.Given as goal

abbrev pub invariant-loop-file : goal.invariant-loop-file
invariant-loop-file l = AllByRecursion IsAsnFile (texts (take l.file-index l.files))
