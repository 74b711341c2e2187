use Rattle.std.proofs.Common.{sym, ◌∙◌}
use Rattle.og_stim.proofs.Texts.{through_more, through_none, through_short}
use Rattle.og_stim.proofs.stimuli.values_of.Goals as goal

pub returns-in_default : goal.returns-in_default
returns-in_default c = through_short _ _ _ _ _ _ c.loop-place-test.true c.in_default.ensures c.loop-place.invariant

pub returns-in_default-2 : goal.returns-in_default-2
returns-in_default-2 c =
    through_none _ _ _ _ _ _ _ _ c.loop-place-test.true c.in-Some.ensures (sym c.in_default-2.is ∙ c.in_ok-value.ensures)
    c.loop-place.invariant

pub loop-place-preserved : goal.loop-place-preserved
loop-place-preserved c =
    through_more _ _ _ _ _ _ _ _ _ _ c.loop-place-test.true c.in-Some.ensures (sym c.in-Some-2.is ∙ c.in_ok-value.ensures)
    c.in_ok-push.ensures.ok c.loop-place.invariant
