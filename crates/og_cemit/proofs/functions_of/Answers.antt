use Rattle.og_cemit.proofs.Joins.{short_more, function_more}
use Rattle.og_cemit.proofs.functions_of.Goals as goal

pub loop-function-preserved : goal.loop-function-preserved
loop-function-preserved c = record {
  made =
      function_more c.args.ir.now c.args.model.now c.args.code.now c.loop-function.function-index c.function-item.result
      c.loop-function-test.true c.function-item.is c.loop-function.invariant.made (cc (c.in_ok-push.ensures.ok, c.in_ok-body_of.ensures.body, c.in_ok-copy.ensures));
  short =
      short_more c.args.code.now c.loop-function.function-index c.function-item.result
      c.loop-function-test.true c.function-item.is c.loop-function.invariant.short c.in_ok-body_of.ensures.short;
}
