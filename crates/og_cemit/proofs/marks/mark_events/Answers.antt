use Rattle.og_cemit.specs.Emitted.{shows}
use Rattle.og_cemit.proofs.Joins.{mark_more}
use Rattle.og_cemit.proofs.marks.mark_events.Goals as goal

pub loop-instruction-preserved : goal.loop-instruction-preserved
loop-instruction-preserved c =
    mark_more shows c.args.code.now c.loop-instruction.instruction-index c.instruction-item.result c.args.marks.now.items
    c.loop-instruction-test.true c.instruction-item.is c.loop-instruction.invariant c.mark_event.ensures
