use Rattle.og_value.proofs.Written.{items_more, items_end, parts_more, parts_none, parts_end}
use Rattle.og_value.proofs.write.+writing.Goals as goal

-- src/write.rt:258:5
pub put_items-loop-place-preserved : goal.put_items-loop-place-preserved
put_items-loop-place-preserved t c =
    items_more _ _ _ _ _ _ _ _ _ c.loop-place-test.true c.index-values-place.is c.in_ok-put_comma.ensures.ok c.in_ok-put_value.ensures.ok
    c.loop-place.invariant

-- src/write.rt:246:1
pub put_items-returns-clause-ok : goal.put_items-returns-clause-ok
put_items-returns-clause-ok t c = items_end _ _ _ _ _ _ c.loop-place-test.false c.loop-place.invariant

-- src/write.rt:238:13
pub put_parts-returns-in_default-clause-ok : goal.put_parts-returns-in_default-clause-ok
put_parts-returns-in_default-clause-ok t c = parts_none _ _ _ _ _ _ _ _ c.in_default.ensures c.loop-place.invariant

-- src/write.rt:236:5
pub put_parts-loop-place-preserved : goal.put_parts-loop-place-preserved
put_parts-loop-place-preserved t c =
    parts_more _ _ _ _ _ _ _ _ _ _ _ _ c.loop-place-test.true c.in-Some.ensures c.in_ok-put_comma.ensures.ok c.in_ok-put_part.ensures.ok c.loop-place.invariant

-- src/write.rt:224:1
pub put_parts-returns-clause-ok : goal.put_parts-returns-clause-ok
put_parts-returns-clause-ok t c = parts_end _ _ _ _ _ _ _ _ c.loop-place-test.false c.loop-place.invariant
