use Rattle.og_forms.specs.Forms.{in_dcl}
use Rattle.og_forms.proofs.FirstSoFar.{Noted}
use Rattle.og_forms.proofs.states.note_dcls.Given as goal

abbrev pub invariant-loop-dcl : goal.invariant-loop-dcl
invariant-loop-dcl l = Noted in_dcl l.dcls l.dcl-index l.first l.initial.first
