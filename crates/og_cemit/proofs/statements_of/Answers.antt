use Rattle.og_cemit.proofs.Joins.{statement_more}
use Rattle.og_cemit.proofs.statements_of.Goals as goal

pub loop-place-preserved : goal.loop-place-preserved
loop-place-preserved c =
    statement_more c.args.ir.now c.args.model.now c.args.function.now c.args.marks.now c.args.code.now c.loop-place.place c.index-code-place.result
    c.loop-place-test.true c.index-code-place.is c.loop-place.invariant c.in_ok-push_statements.ensures
