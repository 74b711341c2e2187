use Rattle.og_front.specs.Rules.{used_by_state}
use Rattle.og_front.proofs.Loops.{Noted}
use Rattle.og_front.proofs.rules.note_unknown_in_states.Given as goal

abbrev pub invariant-loop-state : goal.invariant-loop-state
invariant-loop-state l = Noted (used_by_state l.tables) l.states l.state-index l.first l.initial.first
