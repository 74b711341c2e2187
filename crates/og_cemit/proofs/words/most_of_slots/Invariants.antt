use Rattle.std.proofs.Common.{map}
use Rattle.og_ir.specs.declared.SlotDef.{SlotDef}
use Rattle.og_cemit.specs.Structs.{most_from}
use Rattle.og_names.proofs.Loops.{Left}
use Rattle.og_cemit.proofs.words.most_of_slots.Given as goal

abbrev pub invariant-loop-slot : goal.invariant-loop-slot
invariant-loop-slot l = Left (λ ys. most_from l.most (map (λ (s : SlotDef). s.name.bytes) ys)) l.slots l.slot-index (most_from l.so_far (map (λ (s : SlotDef). s.name.bytes) l.slots))
