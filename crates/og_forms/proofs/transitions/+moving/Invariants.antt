use Rattle.og_forms.specs.Forms.{in_step, in_branch}
use Rattle.og_forms.proofs.FirstSoFar.{Noted}
use Rattle.og_forms.proofs.transitions.+moving.Given as goal

abbrev pub invariant-note_steps-loop-step : goal.invariant-note_steps-loop-step
invariant-note_steps-loop-step l = Noted in_step l.steps l.step-index l.first l.initial.first

abbrev pub invariant-note_branches-loop-branch : goal.invariant-note_branches-loop-branch
invariant-note_branches-loop-branch l = Noted in_branch l.branches l.branch-index l.first l.initial.first
