use Rattle.og_system.specs.Closing.{in_system_part}
use Rattle.og_system.proofs.Noticed.{noted_more}
use Rattle.og_system.proofs.closing.note_system_parts.Goals as goal

pub loop-part-preserved : goal.loop-part-preserved
loop-part-preserved c =
    noted_more in_system_part c.args.parts.now c.loop-part.part-index c.part-item.result c.loop-part.first c.note_system_part.new.first c.args.first.now
    c.loop-part-test.true c.part-item.is (cc) c.loop-part.invariant
