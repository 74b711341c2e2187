use Rattle.og_front.specs.Rules.{double_underline}
use Rattle.og_front.proofs.Loops.{Noted}
use Rattle.og_front.proofs.rules.note_double_underlines_of_states.Given as goal

abbrev pub invariant-loop-state : goal.invariant-loop-state
invariant-loop-state l = Noted (λ state. double_underline state.name) l.states l.state-index l.first l.initial.first
