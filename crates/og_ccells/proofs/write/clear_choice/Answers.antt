use Rattle.og_ccells.proofs.Writing.{choice_cleared}
use Rattle.og_ccells.proofs.write.clear_choice.Goals as goal

pub returns : goal.returns
returns c =
    choice_cleared c.args.depth c.args.sorts.now c.args.parts.now c.args.cells.now.items c.put_number.new.cells.items c.clear.new.cells.items c.args.place c.place_behind-first.result c.width_parts.result
    c.put_number.ensures c.place_behind-first.ensures.place c.place_behind-first.ensures.fits c.clear.ensures.fits c.width_parts.ensures c.clear.ensures.cleared
