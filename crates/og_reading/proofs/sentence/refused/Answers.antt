use Rattle.og_reading.proofs.Cutting.{not_cut}
use Rattle.og_reading.proofs.Whole.{breaks_wrong, breaks_deep, wrong_inside, deep_inside}
use Rattle.og_reading.proofs.sentence.refused.Goals as goal

pub returns-in-Wrong : goal.returns-in-Wrong
returns-in-Wrong c = breaks_wrong c.args.table.now c.args.tokens.now c.in-Wrong.at c.violation_at.result (c.requires.wrong c.in-Wrong.at c.in-Wrong.is) c.violation_at.ensures.rule c.violation_at.ensures.place

pub returns-in-TooDeep : goal.returns-in-TooDeep
returns-in-TooDeep c =
    breaks_deep c.args.table.now c.args.tokens.now c.in-TooDeep.at c.violation_at-in-TooDeep.result (c.requires.deep c.in-TooDeep.at c.in-TooDeep.is) c.violation_at-in-TooDeep.ensures.rule c.violation_at-in-TooDeep.ensures.place

pub unreachable-requires : goal.unreachable-requires
unreachable-requires c = not_cut c.args.table.now c.args.tokens.now c.requires.apart c.requires.ends (c.requires.cut c.in-CutOff.is)

pub violation_at-requires : goal.violation_at-requires
violation_at-requires c = wrong_inside c.args.table.now c.args.tokens.now c.in-Wrong.at (c.requires.wrong c.in-Wrong.at c.in-Wrong.is)

pub violation_at-requires-in-TooDeep : goal.violation_at-requires-in-TooDeep
violation_at-requires-in-TooDeep c = deep_inside c.args.table.now c.args.tokens.now c.in-TooDeep.at (c.requires.deep c.in-TooDeep.at c.in-TooDeep.is)
