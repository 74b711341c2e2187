use Rattle.og_datatypes.proofs.Free.{Noted}
use Rattle.og_datatypes.proofs.numbers.given_in.Given as goal

abbrev pub invariant-loop-item : goal.invariant-loop-item
invariant-loop-item l = Noted l.items l.item-index l.written.numbers.keys l.written.count
