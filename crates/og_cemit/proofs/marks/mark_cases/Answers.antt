use Rattle.og_ir.specs.declared.Case.{Case}
use Rattle.og_cemit.proofs.Joins.{mark_one_more}
use Rattle.og_cemit.proofs.marks.mark_cases.Goals as goal

pub loop-case-preserved : goal.loop-case-preserved
loop-case-preserved c =
    mark_one_more (λ (d : Case). d.to) c.args.cases.now c.loop-case.case-index _ c.args.marks.now.items
    c.loop-case-test.true c.loop-case.invariant c.mark.ensures
