use Rattle.og_outline.specs.Outlines.{starts_in_inner}
use Rattle.og_outline.proofs.Pieces.{Pieces}
use Rattle.og_outline.proofs.transitions.add_starts.Given as goal

abbrev pub invariant-loop-part : goal.invariant-loop-part
invariant-loop-part l = Pieces starts_in_inner l.parts l.part-index l.starts l.initial.starts
