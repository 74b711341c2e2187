use Rattle.og_cemit.proofs.StructLoops.{numbered_more}
use Rattle.og_cemit.proofs.words.push_numbered.Goals as goal

pub loop-number-preserved : goal.loop-number-preserved
loop-number-preserved c =
    numbered_more c.args.names.now c.loop-number.number c.loop-number.words _ c.in_ok-by_number.field-0 _ c.loop-number-test.true
    c.in_ok-by_number.ensures c.in_ok-push.ensures.ok c.loop-number.invariant
