use Rattle.og_forms.specs.Forms.{in_inner, in_partition}
use Rattle.og_forms.proofs.FirstSoFar.{Noted}
use Rattle.og_forms.proofs.states.+nesting.Given as goal

abbrev pub invariant-note_inners-loop-part : goal.invariant-note_inners-loop-part
invariant-note_inners-loop-part l = Noted in_inner l.parts l.part-index l.first l.initial.first

abbrev pub invariant-note_partitions-loop-part : goal.invariant-note_partitions-loop-part
invariant-note_partitions-loop-part l = Noted in_partition l.parts l.part-index l.first l.initial.first
