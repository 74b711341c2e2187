use Rattle.og_outline.specs.Outlines.{states_in_inner}
use Rattle.og_outline.proofs.Pieces.{Pieces}
use Rattle.og_outline.proofs.transitions.add_states.Given as goal

abbrev pub invariant-loop-part : goal.invariant-loop-part
invariant-loop-part l = Pieces states_in_inner l.parts l.part-index l.states l.initial.states
