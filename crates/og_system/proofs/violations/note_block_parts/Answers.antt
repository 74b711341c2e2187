use Rattle.og_system.specs.Bodies.{in_block_part}
use Rattle.og_system.specs.Tables.{seen_by_block}
use Rattle.og_system.proofs.Noticed.{noted_more}
use Rattle.og_system.proofs.violations.note_block_parts.Goals as goal

pub loop-part-preserved : goal.loop-part-preserved
loop-part-preserved c =
    noted_more (in_block_part (seen_by_block c.args.around.now c.args.system.now c.args.block.now)) c.args.parts.now c.loop-part.part-index c.part-item.result c.loop-part.first c.note_block_part.new.first c.args.first.now
    c.loop-part-test.true c.part-item.is (cc) c.loop-part.invariant
