use Rattle.og_datatypes.proofs.Free.{Numbering}
use Rattle.og_datatypes.proofs.numbers.numbers_of.Given as goal

abbrev pub invariant-loop-item : goal.invariant-loop-item
invariant-loop-item l = Numbering l.items l.item-index l.next l.numbers
