use Rattle.std.proofs.Common.{◌↔◌, length}
use Rattle.og_words.specs.Asked.{texts}
use Rattle.og_words.specs.Words.{AreDifferent}
use Rattle.og_words.proofs.command.are_different.Given as goal

abbrev pub invariant-loop-word : goal.invariant-loop-word
invariant-loop-word l = AreDifferent (texts l.rest) ↔ AreDifferent (texts l.words)

abbrev pub decreases-loop-word : goal.decreases-loop-word
decreases-loop-word l = length l.rest
