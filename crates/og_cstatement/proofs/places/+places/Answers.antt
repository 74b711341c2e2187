use Rattle.std.proofs.Common.{arith}
use Rattle.std.specs.Option.{option_map}
use Rattle.og_cload.specs.Held.{kind_of}
use Rattle.og_names.proofs.Loops.{left_more, left_all}
use Rattle.og_ccells.proofs.Widths.{most, small}
use Rattle.og_cstatement.proofs.Numbered.{far, far_first, far_more, far_all}
use Rattle.og_cstatement.proofs.places.+places.Goals as goal

pub place_of-loop-step-init : goal.place_of-loop-step-init
place_of-loop-step-init t c = (let fits = c.global_offset-offset.type_inv in omega (arith, fits), far_first c.args.program.now c.args.place.now c.as_slice-name.result.now c.as_slice-step-items.result.now _ _ _ c.as_slice-name.ensures c.as_slice-step-items.ensures c.global_offset-offset.ensures c.new-terms.ensures c.global_kind-held.ensures)

pub place_of-loop-step-preserved : goal.place_of-loop-step-preserved
place_of-loop-step-preserved t c =
    let P = c.args.program.now in
    let kind = option_map kind_of c.loop-step.held in (
      small most c.loop-step.offset c.member_offset.result c.saturating_add-offset.result c.saturating_add-offset.ensures,
      left_more (λ ys. far P c.loop-step.offset c.loop-step.terms ys kind) _ c.as_slice-step-items.result.now c.loop-step.step-index c.step-item.result _ c.loop-step-test.true c.step-item.is
          (λ ys. far_more P c.step-item.result ys kind (option_map kind_of c.selected-held.result) c.loop-step.offset c.member_offset.result c.saturating_add-offset.result c.loop-step.terms _ c.in_ok-term.term
          c.in_ok-term.ensures c.in_ok-add_term.ensures c.member_offset.ensures c.saturating_add-offset.ensures c.selected-held.ensures)
          c.loop-step.invariant.1,
    )

pub place_of-returns : goal.place_of-returns
place_of-returns t c =
    far_all c.args.program.now c.args.place.now c.loop-step.offset c.loop-step.terms (option_map kind_of c.loop-step.held) c.loop-step.invariant.0
    (left_all (λ ys. far c.args.program.now c.loop-step.offset c.loop-step.terms ys (option_map kind_of c.loop-step.held)) c.as_slice-step-items.result.now c.loop-step.step-index _ c.loop-step-test.false c.loop-step.invariant.1)
