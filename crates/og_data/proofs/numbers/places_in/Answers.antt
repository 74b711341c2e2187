use Rattle.std.proofs.Common.{refl, arith, ◌-◌}
use Rattle.og_data.proofs.Places.{back_more}
use Rattle.og_data.proofs.numbers.places_in.Goals as goal

pub loop-back-preserved : goal.loop-back-preserved
loop-back-preserved c =
    back_more c.args.order.now c.args.nodes c.args.count c.loop-back.back (c.args.count - 1 - c.loop-back.back) _ c.loop-back.numbers.items c.keep.new.numbers.items
    (omega (arith, c.loop-back-test.true, c.loop-back.auto.back-end)) c.requires refl c.keep.ensures c.loop-back.invariant
