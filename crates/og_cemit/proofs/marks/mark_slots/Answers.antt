use Rattle.og_cemit.specs.Structs.{types_of_slot}
use Rattle.og_cemit.proofs.Joins.{mark_more}
use Rattle.og_cemit.proofs.marks.mark_slots.Goals as goal

pub loop-slot-preserved : goal.loop-slot-preserved
loop-slot-preserved c =
    mark_more types_of_slot c.args.slots.now c.loop-slot.slot-index c.slot-item.result c.args.marks.now.items
    c.loop-slot-test.true c.slot-item.is c.loop-slot.invariant c.mark_slot.ensures
