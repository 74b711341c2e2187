use Rattle.og_names.proofs.Loops.{Left}
use Rattle.og_cstep.specs.Slots.{in_vector, are_held}
use Rattle.og_cstep.proofs.ends.are_held.Given as goal

abbrev pub invariant-loop-slot : goal.invariant-loop-slot
invariant-loop-slot l = Left (λ ys. are_held (in_vector l.sorts l.extents l.cells) ys) l.slots l.slot-index (are_held (in_vector l.sorts l.extents l.cells) l.slots)
