use Rattle.std.proofs.Common.{◌∙◌, arith}
use Rattle.og_lexer.proofs.Scans.{opens_at, closes_at, goes_by, none_at}
use Rattle.og_lexer.proofs.scan.nested_end.Goals as goal

pub loop-at-preserved-in-Opens : goal.loop-at-preserved-in-Opens
loop-at-preserved-in-Opens c = record {
  within = omega arith;
  open_below = omega arith;
  found = opens_at c.loop-at.open c.args.bytes.now c.loop-at.at c.loop-at-test.true c.in-Opens.ensures ∙ c.loop-at.invariant.found;
}

pub loop-at-preserved-in-Closes-2 : goal.loop-at-preserved-in-Closes-2
loop-at-preserved-in-Closes-2 c = record {
  within = omega arith;
  open_below = omega arith;
  found = closes_at c.loop-at.open c.args.bytes.now c.loop-at.at c.if-open-eq0.false c.loop-at-test.true c.in-Closes-2.ensures ∙ c.loop-at.invariant.found;
}

pub loop-at-preserved : goal.loop-at-preserved
loop-at-preserved c = record {
  within = omega arith;
  open_below = omega arith;
  found = goes_by c.loop-at.open c.args.bytes.now c.loop-at.at c.loop-at-test.true c.in-Neither.ensures ∙ c.loop-at.invariant.found;
}

pub returns-clause-found : goal.returns-clause-found
returns-clause-found c = none_at c.loop-at.open c.args.bytes.now c.loop-at.at c.loop-at-test.false ∙ c.loop-at.invariant.found
