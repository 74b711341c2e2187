use Rattle.og_system.specs.Closing.{in_inner, in_partition}
use Rattle.og_system.proofs.Noticed.{Noted}
use Rattle.og_system.proofs.closing.+nesting.Given as goal

abbrev pub invariant-note_inners-loop-part : goal.invariant-note_inners-loop-part
invariant-note_inners-loop-part l = Noted in_inner l.parts l.part-index l.first l.initial.first

abbrev pub invariant-note_partitions-loop-part : goal.invariant-note_partitions-loop-part
invariant-note_partitions-loop-part l = Noted in_partition l.parts l.part-index l.first l.initial.first
