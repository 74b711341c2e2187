use Rattle.og_declared.specs.Sorts.{behind_hyphen}
use Rattle.og_declared.proofs.Joining.{Joining}
use Rattle.og_declared.proofs.sorts.add_parts.Given as goal

abbrev pub invariant-loop-part : goal.invariant-loop-part
invariant-loop-part l = Joining behind_hyphen l.parts l.part-index l.word.items l.initial.word.items
