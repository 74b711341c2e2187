use Rattle.std.proofs.Common.{sym}
use Rattle.og_stim.proofs.Splitting.{returned_line, other_line}
use Rattle.og_stim.proofs.lines.without_return.Goals as goal

pub returns-then-last-eq13 : goal.returns-then-last-eq13
returns-then-last-eq13 c =
    returned_line c.args.line.now c.split_at.result.0.now c.split_at.result.1.now (sym c.if-is_empty.ensures) c.split_at.ensures.front c.split_at.ensures.back c.if-last-eq13.true

pub returns-else-last-eq13 : goal.returns-else-last-eq13
returns-else-last-eq13 c =
    other_line c.args.line.now c.split_at.result.1.now (sym c.if-is_empty.ensures) c.split_at.ensures.back c.if-last-eq13.false
