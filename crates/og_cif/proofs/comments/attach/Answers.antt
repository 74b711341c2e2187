use Rattle.std.proofs.Common.{◌+◌, List, refl, sym, subst}
use Rattle.og_cif.specs.declared.BoxEnd.{BoxEnd}
use Rattle.og_cif.proofs.Attaching.{SoFar, so_far_next}
use Rattle.og_cif.proofs.comments.attach.Goals as goal

pub loop-comment-preserved : goal.loop-comment-preserved
loop-comment-preserved c =
    subst (λ (boxes : List BoxEnd). SoFar c.args.bytes.now c.args.comments.now (c.loop-comment.comment-index + 1) boxes) (sym c.in_ok-keep.ensures)
    (so_far_next c.args.bytes.now c.args.comments.now c.loop-comment.comment-index c.loop-comment.list _ _ c.box_of.result c.loop-comment-test.true refl c.box_of.ensures c.loop-comment.invariant)
