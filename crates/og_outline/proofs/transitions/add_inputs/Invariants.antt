use Rattle.og_outline.specs.Outlines.{inputs_in_part}
use Rattle.og_outline.proofs.Pieces.{Pieces}
use Rattle.og_outline.proofs.transitions.add_inputs.Given as goal

abbrev pub invariant-loop-part : goal.invariant-loop-part
invariant-loop-part l = Pieces inputs_in_part l.parts l.part-index l.inputs l.initial.inputs
