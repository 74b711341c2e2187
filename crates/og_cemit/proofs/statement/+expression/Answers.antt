use Rattle.og_cemit.specs.Structs.{member_words}
use Rattle.og_cemit.specs.Standing.{held}
use Rattle.og_cemit.proofs.StructLoops.{path_more}
use Rattle.og_cemit.proofs.statement.+expression.Goals as goal

pub place_of-loop-selector-preserved : goal.place_of-loop-selector-preserved
place_of-loop-selector-preserved t c =
    path_more c.args.ir.now c.args.model.now (member_words c.args.model.now) c.args.model.now.types (held c.loop-selector.standing) _
    c.as_slice-selector-items.result.now c.args.slot.now.path c.loop-selector.selector-index c.selector-item.result c.loop-selector.path _ c.in_ok-selector_of.field-0 _
    c.as_slice-selector-items.ensures c.loop-selector-test.true c.selector-item.is c.in_ok-selector_of.ensures c.in_ok-push.ensures.ok c.standing_after-standing.ensures
    c.loop-selector.invariant
