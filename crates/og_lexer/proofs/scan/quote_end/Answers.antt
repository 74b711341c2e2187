use Rattle.std.proofs.Common.{sym, ◌∙◌, arith}
use Rattle.og_lexer.proofs.Scans.{quote_end-next}
use Rattle.og_lexer.proofs.scan.quote_end.Goals as goal

pub loop-at-preserved : goal.loop-at-preserved
loop-at-preserved c = record {
  within = omega arith;
  found = quote_end-next c.loop-at.inside c.args.bytes.now c.loop-at.at c.loop-at-test.true (sym c.is_behind.ensures ∙ c.if-is_behind.false) ∙ c.loop-at.invariant.found;
}
