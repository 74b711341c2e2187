use Rattle.std.proofs.Common.{◌≢◌, take}
use Rattle.std.specs.List.{AllByRecursion}
use Rattle.og_words.specs.Asked.{texts}
use Rattle.og_words.proofs.command.differs_from.Given as goal

abbrev pub invariant-loop-other : goal.invariant-loop-other
invariant-loop-other l = AllByRecursion (λ other. other ≢ l.word) (texts (take l.other-index l.words))
