use Rattle.og_value.proofs.Numbers.{past_tenth}
use Rattle.og_value.proofs.parts.magnitude.Goals as goal

pub returns-then-number-gt-TENTH : goal.returns-then-number-gt-TENTH
returns-then-number-gt-TENTH c =
    past_tenth c.loop-digit.number c.loop-digit.digit-index _ c.args.digits.now c.loop-digit.invariant c.loop-digit-test.true c.if-number-gt-TENTH.true
