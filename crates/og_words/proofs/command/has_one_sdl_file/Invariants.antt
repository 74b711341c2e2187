use Rattle.std.proofs.Common.{◌↔◌, length}
use Rattle.std.specs.List.{AllByRecursion}
use Rattle.og_words.specs.Asked.{texts}
use Rattle.og_words.specs.Words.{IsModelFile, HasOneSdlFile}
use Rattle.og_words.proofs.command.has_one_sdl_file.Given as goal

abbrev pub invariant-loop-file : goal.invariant-loop-file
invariant-loop-file l = record {
  each : AllByRecursion IsModelFile (texts l.rest);
  tells : HasOneSdlFile (texts l.rest) ↔ HasOneSdlFile (texts l.files);
}

abbrev pub decreases-loop-file : goal.decreases-loop-file
decreases-loop-file l = length l.rest
