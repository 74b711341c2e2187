use Rattle.og_declared.specs.Tables.{part_by}
use Rattle.og_system.proofs.Noticed.{noted_more}
use Rattle.og_declared.proofs.sorts.note_system_parts.Goals as goal

pub loop-part-preserved : goal.loop-part-preserved
loop-part-preserved c =
    noted_more (part_by c.args.outside.now c.args.system.now) c.args.parts.now c.loop-part.part-index c.part-item.result c.loop-part.first c.note_system_part.new.first c.args.first.now
    c.loop-part-test.true c.part-item.is c.in_ok-note_system_part.ensures c.loop-part.invariant
