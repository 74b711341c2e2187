use Rattle.og_cif.proofs.Attaching.{SoFar}
use Rattle.og_cif.proofs.comments.attach.Given as goal

abbrev pub invariant-loop-comment : goal.invariant-loop-comment
invariant-loop-comment l = SoFar l.bytes l.comments l.comment-index l.list
