use Rattle.std.proofs.Common.{ap, ◌∙◌}
use Rattle.og_ir.specs.Reading.{natural, read_within, blank_within}
use Rattle.og_ccells.proofs.Holding.{choice_part, items_more, parts_more}
use Rattle.og_ccells.proofs.holds.+holds.Goals as goal

pub holds_choice-returns : goal.holds_choice-returns
holds_choice-returns t c =
    c.holds_within.ensures
    ∙ choice_part (read_within c.args.depth c.args.sorts.now) (blank_within c.args.depth c.args.sorts.now) c.args.cells.now c.args.parts.now _ c.args.place c.in-Some.number
    c.behind-first.result c.behind-chosen.result c.width_parts.result c.in-Some-at.part.now c.in-Some.ensures c.in-Some-at.ensures
    c.behind-first.ensures.place c.split_at.ensures.front c.width_parts.ensures c.behind-chosen.ensures.place c.behind-chosen.ensures.fits

pub holds_items-loop-number-preserved : goal.holds_items-loop-number-preserved
holds_items-loop-number-preserved t c =
    items_more (read_within c.args.depth c.args.sorts.now c.args.item) (blank_within c.args.depth c.args.sorts.now c.args.item) c.args.cells.now c.args.count c.args.size c.loop-number.at
    c.loop-number.number c.width_within-width.result c.behind-at.result _ c.loop-number-test.true c.requires c.if-not-holds_within.ensures c.width_within-width.ensures
    c.behind-at.ensures.place c.behind-at.ensures.fits c.loop-number.invariant

pub holds_parts-loop-part-preserved : goal.holds_parts-loop-part-preserved
holds_parts-loop-part-preserved t c =
    parts_more (read_within c.args.depth c.args.sorts.now) (blank_within c.args.depth c.args.sorts.now) c.args.cells.now c.args.parts.now c.loop-part.part-index c.loop-part.at
    c.width_within.result c.behind-at.result _ _ c.loop-part-test.true c.if-not-holds_within.ensures c.width_within.ensures c.behind-at.ensures.place c.behind-at.ensures.fits
    c.loop-part.invariant
