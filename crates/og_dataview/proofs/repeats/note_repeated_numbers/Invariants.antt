use Rattle.og_dataview.proofs.Meeting.{Counting}
use Rattle.og_dataview.proofs.repeats.note_repeated_numbers.Given as goal

abbrev pub invariant-loop-item : goal.invariant-loop-item
invariant-loop-item l = Counting l.items l.item-index l.numbers.keys l.first l.initial.first
