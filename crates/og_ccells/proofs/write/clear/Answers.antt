use Rattle.std.proofs.Common.{◌+◌, ◌≤◌, length, min, arith}
use Rattle.og_ccells.proofs.Writing.{clear_more, clear_all}
use Rattle.og_ccells.proofs.write.clear.Goals as goal

pub loop-place-preserved : goal.loop-place-preserved
loop-place-preserved c = clear_more c.args.cells.now.items c.loop-place.cells.items c.args.at c.loop-place.place c.loop-place.auto.place c.loop-place.invariant

pub returns-clause-cleared : goal.returns-clause-cleared
returns-clause-cleared c =
    clear_all c.args.cells.now.items c.loop-place.cells.items c.args.at c.loop-place.place c.place_behind-end.result c.args.width c.loop-place.auto.place c.place_behind-end.ensures.place c.loop-place.auto.place-end
    c.loop-place-test.false c.loop-place.invariant
