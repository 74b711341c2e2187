use Rattle.std.proofs.Common.{◌≡◌, length, pos, cond, slice_set, Some, sym, ap, ◌∙◌, arith, w64}
use Rattle.std.specs.Option.{option_copied}
use Rattle.std.proofs.lemmas.Int.{ints}
use mir.Val.{to_z, of_z}
use Rattle.og_ccells.specs.Vectors.{put_cells}
use Rattle.og_ccells.specs.Views.{written_or, choice, seq_of, sequence}
use Rattle.og_ir.specs.Reading.{blank_within, write_within, write_alternatives}
use Rattle.og_ccells.proofs.Shapes.{within_shape}
use Rattle.og_ccells.proofs.Writing.{within_zeros, put_zeros, number_put, parts_more, items_more, alternatives_more, alternatives_end, alternatives_is, items_put, sequence_cleared, not_empty}
use Rattle.og_ccells.proofs.write.+write.Goals as goal

pub write_alternatives-loop-number-preserved : goal.write_alternatives-loop-number-preserved
write_alternatives-loop-number-preserved t c =
    let depth = c.args.depth in
    let sorts = c.args.sorts.now in
    alternatives_more (blank_within depth sorts) (write_within depth sorts) (within_shape depth sorts) c.args.parts.now c.args.chosen c.args.value.now c.loop-number.number c.loop-number.at
    c.width_within.result c.place_behind-at.result _ c.loop-number.cells.items c.write_alternative.new.cells.items _ c.loop-number-test.true c.write_alternative.ensures c.width_within.ensures
    c.place_behind-at.ensures.place c.place_behind-at.ensures.fits c.loop-number.invariant

pub write_alternatives-returns : goal.write_alternatives-returns
write_alternatives-returns t c =
    let depth = c.args.depth in
    let sorts = c.args.sorts.now in
    alternatives_end (blank_within depth sorts) (write_within depth sorts) (within_shape depth sorts) c.args.parts.now c.args.chosen c.args.value.now c.loop-number.number c.loop-number.at
    c.loop-number.cells.items _ c.loop-number-test.false c.loop-number.invariant
    ∙ ap (λ x. put_cells c.args.place x c.args.cells.now.items) (alternatives_is (blank_within depth sorts) (write_within depth sorts) c.args.parts.now c.args.chosen c.args.value.now)

pub write_items-loop-number-preserved : goal.write_items-loop-number-preserved
write_items-loop-number-preserved t c =
    let depth = c.args.depth in
    let sorts = c.args.sorts.now in
    items_more (blank_within depth sorts) (write_within depth sorts) (within_shape depth sorts) c.args.item c.args.hi c.args.values.now c.loop-number.number c.loop-number.at
    c.width_within-width.result c.place_behind-at.result c.loop-number.cells.items c.write_at.new.cells.items _ c.loop-number-test.true c.write_at.ensures c.width_within-width.ensures
    c.place_behind-at.ensures.place c.place_behind-at.ensures.fits c.loop-number.invariant

pub write_parts-loop-number-preserved : goal.write_parts-loop-number-preserved
write_parts-loop-number-preserved t c =
    let depth = c.args.depth in
    let sorts = c.args.sorts.now in
    parts_more (blank_within depth sorts) (write_within depth sorts) (within_shape depth sorts) c.args.parts.now c.args.values.now c.loop-number.number c.loop-number.at
    c.width_within.result c.place_behind-at.result _ c.loop-number.cells.items c.write_at.new.cells.items _ c.loop-number-test.true c.write_at.ensures c.width_within.ensures
    c.place_behind-at.ensures.place c.place_behind-at.ensures.fits c.loop-number.invariant

pub write_alternative-returns-else-is_chosen : goal.write_alternative-returns-else-is_chosen
write_alternative-returns-else-is_chosen t c =
    let blank = blank_within c.args.depth c.args.sorts.now c.args.sort in
    put_zeros blank c.args.cells.now.items c.clear.new.cells.items c.args.place c.width_within.result (within_zeros c.args.depth c.args.sorts.now c.args.sort) c.width_within.ensures c.clear.ensures.fits
    c.clear.ensures.cleared
    ∙ ap (λ b. put_cells c.args.place (cond b (write_within c.args.depth c.args.sorts.now c.args.sort c.args.value.now) blank) c.args.cells.now.items) (sym c.if-is_chosen.false)

pub write_at-returns-in-None : goal.write_at-returns-in-None
write_at-returns-in-None t c =
    let blank = blank_within c.args.depth c.args.sorts.now c.args.sort in
    put_zeros blank c.args.cells.now.items c.clear.new.cells.items c.args.place c.width_within.result (within_zeros c.args.depth c.args.sorts.now c.args.sort) c.width_within.ensures c.clear.ensures.fits
    c.clear.ensures.cleared
    ∙ ap (λ o. put_cells c.args.place (written_or blank (write_within c.args.depth c.args.sorts.now c.args.sort) o) c.args.cells.now.items) c.in-None.ensures

pub write_choice-returns-in-Some-value : goal.write_choice-returns-in-Some-value
write_choice-returns-in-Some-value t c =
    let depth = c.args.depth in
    let sorts = c.args.sorts.now in
    let cells = c.args.cells.now.items in
    let number : to_z w64 (of_z w64 c.from.result) ≡ pos c.in-Some.number = omega (arith, ints, c.from.ensures) in
    number_put (pos c.in-Some.number) (write_alternatives (blank_within depth sorts) (write_within depth sorts) c.args.parts.now c.in-Some.number c.in-Some-value.value.now) cells
    c.put_number.new.cells.items c.write_alternatives.new.cells.items c.args.place c.place_behind-first.result (c.put_number.ensures ∙ ap (slice_set cells c.args.place) number)
    c.place_behind-first.ensures.place c.place_behind-first.ensures.fits c.write_alternatives.ensures
    ∙ ap (λ o. put_cells c.args.place (choice (blank_within depth sorts) (write_within depth sorts) c.args.parts.now (Some c.in-Some.number) (option_copied o)) cells) (sym c.in-Some-value.is)
    ∙ ap (λ o. put_cells c.args.place (choice (blank_within depth sorts) (write_within depth sorts) c.args.parts.now o (option_copied c.args.value)) cells) (sym c.in-Some.is)

pub write_seq_of-returns-in-Some : goal.write_seq_of-returns-in-Some
write_seq_of-returns-in-Some t c =
    let depth = c.args.depth in
    let sorts = c.args.sorts.now in
    let cells = c.args.cells.now.items in
    let length_is : to_z w64 (of_z w64 c.length_of.result) ≡ pos (length c.in-Some.values.now) = omega (arith, ints, c.length_of.ensures) in
    items_put (blank_within depth sorts) (write_within depth sorts) c.args.hi c.args.item c.in-Some.values.now cells c.put_number.new.cells.items c.write_items.new.cells.items c.args.place
    c.place_behind-first.result (c.put_number.ensures ∙ ap (slice_set cells c.args.place) length_is) c.place_behind-first.ensures.place c.place_behind-first.ensures.fits c.write_items.ensures
    ∙ ap (λ o. put_cells c.args.place (seq_of (blank_within depth sorts) (write_within depth sorts) c.args.hi c.args.item (option_copied o)) cells) (sym c.in-Some.is)

pub write_sequence-returns-in-None : goal.write_sequence-returns-in-None
write_sequence-returns-in-None t c =
    let depth = c.args.depth in
    let sorts = c.args.sorts.now in
    sequence_cleared depth sorts c.args.parts.now c.args.cells.now.items c.clear.new.cells.items c.args.place c.width_parts.result (not_empty c.args.parts.now c.if-is_empty.ensures) c.clear.ensures.fits
    c.width_parts.ensures c.clear.ensures.cleared
    ∙ ap (λ o. put_cells c.args.place (sequence (blank_within depth sorts) (write_within depth sorts) c.args.parts.now (option_copied o)) c.args.cells.now.items) (sym c.in-None.is)
