use Rattle.og_ccells.proofs.Widths.{extents_more}
use Rattle.og_ccells.proofs.layout.extents_of.Goals as goal

pub loop-global-preserved : goal.loop-global-preserved
loop-global-preserved c =
    extents_more c.args.structs.now c.args.globals.now c.loop-global.global-index c.loop-global.offset c.type_width-width.result c.saturating_add-offset.result c.loop-global.extents
    c.push.new.self _ c.is_number-is_number.result c.global-item.result c.type_width-width.ensures c.is_number-is_number.ensures c.in_ok-push.ensures.ok c.saturating_add-offset.ensures
    c.loop-global-test.true c.global-item.is c.loop-global.invariant
