use Rattle.og_front.proofs.Underlines.{found, not_found}
use Rattle.og_front.proofs.rules.has_double_underline.Goals as goal

pub returns-then-before : goal.returns-then-before
returns-then-before c = found c.loop-byte.before c.args.bytes.now c.loop-byte.byte-index c.loop-byte-test.true c.if-underline.true c.if-before.true c.loop-byte.invariant

pub returns : goal.returns
returns c = not_found c.loop-byte.before c.args.bytes.now c.loop-byte.byte-index c.loop-byte-test.false c.loop-byte.invariant
