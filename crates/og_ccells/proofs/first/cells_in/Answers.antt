use Rattle.std.proofs.Common.{◌≤◌, map, get_or, sym, refl, arith}
use Rattle.og_ccells.specs.declared.layout.Extent.{Extent}
use Rattle.og_ccells.proofs.Widths.{most, small, sum_first, sum_more_at, sum_all, up_to_small}
use Rattle.og_ccells.proofs.first.cells_in.Goals as goal

pub loop-extent-init : goal.loop-extent-init
loop-extent-init c = (omega arith, sum_first most (λ (e : Extent). e.width) c.args.extents.now)

pub loop-extent-preserved : goal.loop-extent-preserved
loop-extent-preserved c = (
  small most c.loop-extent.count _ c.saturating_add-count.result c.saturating_add-count.ensures,
  sum_more_at most (λ (e : Extent). e.width) c.args.extents.now c.loop-extent.extent-index c.loop-extent.count _
      c.saturating_add-count.result _ _ (sym (up_to_small most _ (omega arith))) c.saturating_add-count.ensures c.loop-extent-test.true
      c.loop-extent.invariant.1,
)

pub returns : goal.returns
returns c =
    sum_all most (λ (e : Extent). e.width) c.args.extents.now c.loop-extent.extent-index c.loop-extent.count _
    c.loop-extent.invariant.0 c.loop-extent-test.false c.loop-extent.invariant.1
