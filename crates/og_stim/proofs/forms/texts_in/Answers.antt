use Rattle.og_stim.proofs.Texts.{so_far_more, so_far_last, so_far_none, so_far_end}
use Rattle.og_stim.proofs.forms.texts_in.Goals as goal

pub returns-in_default : goal.returns-in_default
returns-in_default c = so_far_none _ _ _ _ _ c.loop-test.true c.in_default.ensures c.loop.invariant

pub returns-in-None : goal.returns-in-None
returns-in-None c =
    so_far_last c.loop.texts.items _ _ _ _ _ c.in-Some.piece.more _ c.loop-test.true c.in-Some.ensures c.in-None.is c.in_ok-push.ensures.items
    c.loop.invariant

pub loop-preserved : goal.loop-preserved
loop-preserved c =
    so_far_more c.loop.texts.items _ _ _ _ _ _ c.in-Some.piece.more _ c.loop-test.true c.in-Some.ensures c.in-Some-more.is
    c.in_ok-push.ensures.items c.loop.invariant

pub returns : goal.returns
returns c = so_far_end _ _ _ _ _ c.loop-test.false c.loop.invariant
