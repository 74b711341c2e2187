use Rattle.std.proofs.Common.{◌≡◌, take}
use Rattle.og_ir.proofs.copy.copy_slots.Given as goal

abbrev pub invariant-loop-slot : goal.invariant-loop-slot
invariant-loop-slot l = l.copied ≡ take l.slot-index l.slots
