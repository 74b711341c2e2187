use Rattle.og_names.proofs.Loops.{Left}
use Rattle.og_datatypes.proofs.Depths.{all_marked}
use Rattle.og_datatypes.proofs.known.are_marked.Given as goal

abbrev pub invariant-loop-part : goal.invariant-loop-part
invariant-loop-part l = Left (all_marked l.within) l.parts l.part-index (all_marked l.within l.parts)
