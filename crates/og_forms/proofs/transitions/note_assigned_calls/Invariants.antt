use Rattle.og_forms.specs.Forms.{in_assign}
use Rattle.og_forms.proofs.FirstSoFar.{Noted}
use Rattle.og_forms.proofs.transitions.note_assigned_calls.Given as goal

abbrev pub invariant-loop-assign : goal.invariant-loop-assign
invariant-loop-assign l = Noted in_assign l.assigns l.assign-index l.first l.initial.first
