use Rattle.og_declared.specs.Sorts.{in_block_part}
use Rattle.og_declared.specs.Tables.{is_other}
use Rattle.og_system.proofs.Noticed.{noted_more}
use Rattle.og_declared.proofs.sorts.note_block_parts.Goals as goal

pub loop-part-preserved : goal.loop-part-preserved
loop-part-preserved c =
    noted_more (in_block_part c.args.outside.now.types (is_other c.args.outside.now c.args.system.now c.args.block.now)) c.args.parts.now c.loop-part.part-index c.part-item.result c.loop-part.first c.note_block_part.new.first c.args.first.now
    c.loop-part-test.true c.part-item.is c.in_ok-note_block_part.ensures c.loop-part.invariant
