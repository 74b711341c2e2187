use Rattle.og_declared.specs.Tables.{in_spaces_of_part}
use Rattle.og_system.proofs.Noticed.{noted_more}
use Rattle.og_declared.proofs.spaces.note_in_blocks.Goals as goal

pub loop-part-preserved : goal.loop-part-preserved
loop-part-preserved c =
    noted_more in_spaces_of_part c.args.parts.now c.loop-part.part-index c.part-item.result c.loop-part.first c.note_in_block_of.new.first c.args.first.now
    c.loop-part-test.true c.part-item.is c.in_ok-note_in_block_of.ensures c.loop-part.invariant
