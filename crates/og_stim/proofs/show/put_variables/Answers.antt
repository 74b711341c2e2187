use Rattle.og_stim.proofs.Texts.{lines_more, lines_short, lines_end}
use Rattle.og_stim.proofs.show.put_variables.Goals as goal

pub returns-in_default : goal.returns-in_default
returns-in_default c = lines_short _ _ _ _ _ _ c.in_default.ensures c.loop-place.invariant

pub loop-place-preserved : goal.loop-place-preserved
loop-place-preserved c =
    lines_more _ _ _ _ _ _ c.index-variables-place.result _ _ c.loop-place-test.true c.index-variables-place.is c.in-Some.ensures
    c.in_ok-put_variable.ensures c.loop-place.invariant

pub returns : goal.returns
returns c = lines_end _ _ _ _ _ _ c.loop-place-test.false c.loop-place.invariant
