use Rattle.std.proofs.Common.{map, ap, ◌∙◌, arith}
use Rattle.og_types.specs.declared.Part.{Part}
use Rattle.og_ir.specs.Cells.{count, row}
use Rattle.og_ir.specs.Reading.{blank_within}
use Rattle.og_ccells.specs.Layouts.{counted}
use Rattle.og_ccells.proofs.Widths.{small, sum_first, sum_more_at, sum_all}
use Rattle.og_ccells.proofs.TypeWidths.{most, choice_width, seq_of_width, opaque_width, parts_width}
use Rattle.og_ccells.proofs.types.+width.Goals as goal

pub width_parts-loop-part-init : goal.width_parts-loop-part-init
width_parts-loop-part-init t c = (omega arith, sum_first most (λ (p : Part). count (blank_within c.args.depth c.args.sorts.now p.sort)) c.args.parts.now)

pub width_parts-loop-part-preserved : goal.width_parts-loop-part-preserved
width_parts-loop-part-preserved t c = (
  small most c.loop-part.width c.width_within.result c.saturating_add-width.result c.saturating_add-width.ensures,
  sum_more_at most (λ (p : Part). count (blank_within c.args.depth c.args.sorts.now p.sort)) c.args.parts.now c.loop-part.part-index c.loop-part.width c.width_within.result
      c.saturating_add-width.result _ _ c.width_within.ensures c.saturating_add-width.ensures c.loop-part-test.true c.loop-part.invariant.1,
)

pub width_parts-returns : goal.width_parts-returns
width_parts-returns t c =
    parts_width (blank_within c.args.depth c.args.sorts.now) c.args.parts.now c.loop-part.width
    (sum_all most (λ (p : Part). count (blank_within c.args.depth c.args.sorts.now p.sort)) c.args.parts.now c.loop-part.part-index c.loop-part.width _ c.loop-part.invariant.0
    c.loop-part-test.false c.loop-part.invariant.1)

pub width_sort-returns-in-Choice : goal.width_sort-returns-in-Choice
width_sort-returns-in-Choice t c =
    choice_width (blank_within c.args.depth c.args.sorts.now) c.args.sort.now c.in-Choice.parts c.width_parts.result c.saturating_add.result
    (c.width_parts.ensures ∙ ap (λ ps. counted (count (row (map (λ (p : Part). blank_within c.args.depth c.args.sorts.now p.sort) ps)))) c.as_slice-in-Choice.ensures)
    c.saturating_add.ensures c.in-Choice.is

pub width_sort-returns-in-SeqOf : goal.width_sort-returns-in-SeqOf
width_sort-returns-in-SeqOf t c =
    seq_of_width (blank_within c.args.depth c.args.sorts.now) c.args.sort.now c.in-SeqOf.lo c.in-SeqOf.hi c.in-SeqOf.item c.width_within-width.result c.saturating_mul.result
    c.saturating_add-in-SeqOf.result c.width_within-width.ensures c.saturating_mul.ensures c.saturating_add-in-SeqOf.ensures c.in-SeqOf.is

pub width_sort-returns-in-Opaque : goal.width_sort-returns-in-Opaque
width_sort-returns-in-Opaque t c = opaque_width (blank_within c.args.depth c.args.sorts.now) c.args.sort.now c.in-Opaque.is
