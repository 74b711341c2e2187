use Rattle.std.proofs.Common.{refl, arith}
use Rattle.og_data.proofs.Places.{placed_in, placed_out}
use Rattle.og_data.proofs.numbers.keep.Goals as goal

pub returns-then-place-len : goal.returns-then-place-len
returns-then-place-len c = λ order nodes there before.
    placed_in order nodes c.args.at c.args.place c.args.numbers.now.items _ there (omega (arith, c.if-place-len.true, c.len.ensures)) refl before

pub returns-else-place-len : goal.returns-else-place-len
returns-else-place-len c = λ order nodes there before.
    placed_out order nodes c.args.at c.args.place c.args.numbers.now.items there (omega (arith, c.if-place-len.false, c.len.ensures)) before
