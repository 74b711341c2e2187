use Rattle.std.proofs.Common.{Option, Some, sym, ap, ◌∙◌}
use Rattle.og_types.specs.declared.Value.{Value}
use Rattle.og_types.specs.declared.Value.TheVariants as made
use Rattle.og_ir.specs.Cells.{◌>>=◌}
use Rattle.og_ir.specs.Reading.{read_within, blank_within}
use Rattle.og_ccells.proofs.Valued.{choice_part, items_bad, items_more, parts_more}
use Rattle.og_ccells.proofs.read.+read.Goals as goal

pub read_choice-returns-in_default-2 : goal.read_choice-returns-in_default-2
read_choice-returns-in_default-2 t c =
    ap (λ (o : Option Value). o >>= λ v. Some (made.Choice c.in-Some.number v)) (sym c.in_default-2.is ∙ c.in_ok-value.ensures)
    ∙ choice_part (read_within c.args.depth c.args.sorts.now) (blank_within c.args.depth c.args.sorts.now) c.args.cells.now c.args.parts.now _ c.args.place c.in-Some.number
    c.behind-first.result c.behind-chosen.result c.width_parts.result c.in-Some-at.part.now c.in-Some.ensures c.in-Some-at.ensures
    c.behind-first.ensures.place c.split_at.ensures.front c.width_parts.ensures c.behind-chosen.ensures.place c.behind-chosen.ensures.fits

pub read_choice-returns : goal.read_choice-returns
read_choice-returns t c =
    ap Some c.in_ok-value-2.ensures
    ∙ ap (λ (o : Option Value). o >>= λ v. Some (made.Choice c.in-Some.number v)) (sym c.in-Some-2.is ∙ c.in_ok-value.ensures)
    ∙ choice_part (read_within c.args.depth c.args.sorts.now) (blank_within c.args.depth c.args.sorts.now) c.args.cells.now c.args.parts.now _ c.args.place c.in-Some.number
    c.behind-first.result c.behind-chosen.result c.width_parts.result c.in-Some-at.part.now c.in-Some.ensures c.in-Some-at.ensures
    c.behind-first.ensures.place c.split_at.ensures.front c.width_parts.ensures c.behind-chosen.ensures.place c.behind-chosen.ensures.fits

pub read_items-returns-in_default : goal.read_items-returns-in_default
read_items-returns-in_default t c =
    items_bad (read_within c.args.depth c.args.sorts.now c.args.item) (blank_within c.args.depth c.args.sorts.now c.args.item) c.args.cells.now c.args.count c.args.size c.loop-number.at
    c.loop-number.number c.loop-number.values _ c.loop-number-test.true c.requires (sym c.in_default.is ∙ c.in_ok-value.ensures) c.loop-number.invariant

pub read_items-loop-number-preserved : goal.read_items-loop-number-preserved
read_items-loop-number-preserved t c =
    items_more (read_within c.args.depth c.args.sorts.now c.args.item) (blank_within c.args.depth c.args.sorts.now c.args.item) c.args.cells.now c.args.count c.args.size c.loop-number.at
    c.loop-number.number c.width_within-width.result c.behind-at.result c.in-Some.value c.loop-number.values c.push.new.self _ c.loop-number-test.true c.requires
    (sym c.in-Some.is ∙ c.in_ok-value.ensures) c.in_ok-push.ensures.ok c.width_within-width.ensures c.behind-at.ensures.place c.behind-at.ensures.fits c.loop-number.invariant

pub read_parts-loop-part-preserved : goal.read_parts-loop-part-preserved
read_parts-loop-part-preserved t c =
    parts_more (read_within c.args.depth c.args.sorts.now) (blank_within c.args.depth c.args.sorts.now) c.args.cells.now c.args.parts.now c.loop-part.part-index c.loop-part.at
    c.width_within.result c.behind-at.result _ c.in-Some.value c.loop-part.values c.push.new.self _ c.loop-part-test.true (sym c.in-Some.is ∙ c.in_ok-value.ensures) c.in_ok-push.ensures.ok
    c.width_within.ensures c.behind-at.ensures.place c.behind-at.ensures.fits c.loop-part.invariant
