use Rattle.og_outline.specs.Outlines.{steps_in_step}
use Rattle.og_outline.proofs.Pieces.{Pieces}
use Rattle.og_outline.proofs.transitions.add_steps.Given as goal

abbrev pub invariant-loop-tree : goal.invariant-loop-tree
invariant-loop-tree l = Pieces steps_in_step l.trees l.tree-index l.steps l.initial.steps
