use Rattle.og_forms.specs.Forms.{in_block_part}
use Rattle.og_forms.proofs.FirstSoFar.{noted_more}
use Rattle.og_forms.proofs.units.note_block_parts.Goals as goal

pub loop-part-preserved : goal.loop-part-preserved
loop-part-preserved c =
    noted_more in_block_part c.args.parts.now c.loop-part.part-index c.part-item.result c.loop-part.first c.note_block_part.new.first c.args.first.now
    c.loop-part-test.true c.part-item.is (cc) c.loop-part.invariant
