use Rattle.std.proofs.Common.{◌-◌, ◌+◌, length, ap, ◌∙◌}
use Rattle.og_cemit.specs.Structs.{settled}
use Rattle.og_cemit.proofs.StructLoops.{settled_more}
use Rattle.og_cemit.proofs.marks.settle.Goals as goal

pub loop-later-preserved : goal.loop-later-preserved
loop-later-preserved c =
    ap (settled c.args.sorts.now (length c.args.sorts.now - (c.loop-later.later + 1))) c.settle_one.ensures
    ∙ settled_more c.args.sorts.now (length c.args.sorts.now) c.loop-later.later c.loop-later-test.true c.loop-later.marks.items
    ∙ c.loop-later.invariant
