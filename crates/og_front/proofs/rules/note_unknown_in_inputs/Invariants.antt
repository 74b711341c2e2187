use Rattle.og_front.specs.Rules.{used_by_input}
use Rattle.og_front.proofs.Loops.{Noted}
use Rattle.og_front.proofs.rules.note_unknown_in_inputs.Given as goal

abbrev pub invariant-loop-input : goal.invariant-loop-input
invariant-loop-input l = Noted (used_by_input l.tables) l.inputs l.input-index l.first l.initial.first
