use Rattle.og_ccells.proofs.Writing.{seq_of_cleared}
use Rattle.og_ccells.proofs.write.clear_seq_of.Goals as goal

pub returns : goal.returns
returns c =
    seq_of_cleared c.args.depth c.args.sorts.now c.args.hi c.args.item c.args.cells.now.items c.put_number.new.cells.items c.clear.new.cells.items c.args.place c.place_behind-first.result
    c.width_within-width.result c.saturating_mul.result c.put_number.ensures c.place_behind-first.ensures.place c.place_behind-first.ensures.fits c.clear.ensures.fits c.width_within-width.ensures
    c.saturating_mul.ensures c.clear.ensures.cleared
