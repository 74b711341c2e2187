use Rattle.og_system.specs.Closing.{in_inner}
use Rattle.og_system.proofs.Noticed.{noted_more}
use Rattle.og_system.proofs.closing.+nesting.Goals as goal

pub note_inners-loop-part-preserved : goal.note_inners-loop-part-preserved
note_inners-loop-part-preserved n c =
    noted_more in_inner c.args.parts.now c.loop-part.part-index c.part-item.result c.loop-part.first c.note_inner.new.first c.args.first.now
    c.loop-part-test.true c.part-item.is (cc) c.loop-part.invariant
