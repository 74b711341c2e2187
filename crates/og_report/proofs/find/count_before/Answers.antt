use Rattle.std.proofs.Common.{drop, arith, sym, ◌∙◌}
use Rattle.og_report.proofs.Counting.{none}
use Rattle.og_report.proofs.find.count_before.Goals as goal

pub returns-then-not-is_before-clause-counted : goal.returns-then-not-is_before-clause-counted
returns-then-not-is_before-clause-counted c =
    let rest = none c.args.place c.loop-count.here (drop c.loop-count.count c.args.bytes.now) (sym c.is_before.ensures ∙ c.if-not-is_before.true) in
    omega (arith, rest, c.loop-count.invariant.counted)
