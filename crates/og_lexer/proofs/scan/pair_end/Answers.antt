use Rattle.std.proofs.Common.{sym, ◌∙◌, arith}
use Rattle.og_lexer.proofs.Scans.{pair_end-next}
use Rattle.og_lexer.proofs.scan.pair_end.Goals as goal

pub loop-at-preserved : goal.loop-at-preserved
loop-at-preserved c = record {
  within = omega arith;
  found = pair_end-next c.args.first c.args.second c.args.in_line c.args.bytes.now c.loop-at.at c.loop-at-test.true (sym c.ends_line.ensures ∙ c.if-ends_line.false) (sym c.is_pair.ensures.found ∙ c.if-is_pair.false) ∙ c.loop-at.invariant.found;
}
