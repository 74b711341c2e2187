use Rattle.og_stim.proofs.Texts.{writes_first, writes_more, writes_short, writes_end}
use Rattle.og_stim.proofs.show.put_values.Goals as goal

pub loop-place-init : goal.loop-place-init
loop-place-init c = writes_first _ _ _ _

pub returns-in_default : goal.returns-in_default
returns-in_default c = writes_short _ _ _ _ _ _ c.in_default.ensures c.loop-place.invariant

pub loop-place-preserved : goal.loop-place-preserved
loop-place-preserved c =
    writes_more _ _ _ _ _ _ _ _ _ _ c.loop-place-test.true c.in-Some.ensures c.in_ok-put_comma.ensures c.in_ok-write_value.ensures.shown
    c.loop-place.invariant

pub returns : goal.returns
returns c = writes_end _ _ _ _ _ _ c.loop-place-test.false c.loop-place.invariant
