use Rattle.std.proofs.Common.{◌≡◌, take}
use Rattle.std.specs.List.{flat_map}
use Rattle.og_cemit.specs.Marks.{all_marked}
use Rattle.og_cemit.specs.Structs.{types_of_slot}
use Rattle.og_cemit.proofs.marks.mark_slots.Given as goal

abbrev pub invariant-loop-slot : goal.invariant-loop-slot
invariant-loop-slot l = l.marks.items ≡ all_marked (flat_map types_of_slot (take l.slot-index l.slots)) l.initial.marks.items
