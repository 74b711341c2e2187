use Rattle.og_declared.specs.Tables.{named_in_block}
use Rattle.og_declared.proofs.Spacing.{spacing_more}
use Rattle.og_declared.proofs.spaces.note_in_block.Goals as goal

pub loop-part-preserved : goal.loop-part-preserved
loop-part-preserved c =
    spacing_more (named_in_block c.args.space) c.args.parts.now c.loop-part.part-index c.part-item.result c.loop-part.table _ _ c.loop-part.first _ _
    c.loop-part-test.true c.part-item.is c.in_ok-note_in_block_part.ensures.table c.in_ok-note_in_block_part.ensures.first c.loop-part.invariant
