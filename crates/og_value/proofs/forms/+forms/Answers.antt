use Rattle.og_value.proofs.Steps.{passes_more, passes_stop, passes_end}
use Rattle.og_value.specs.Scans.{comma_by, part_by, form_at}
use Rattle.og_value.proofs.forms.+forms.Goals as goal

pub past_items-returns-in-None : goal.past_items-returns-in-None
past_items-returns-in-None t c = passes_stop (comma_by (form_at c.args.depth)) _ _ _ c.in-None.ensures c.loop.invariant

pub past_items-loop-preserved : goal.past_items-loop-preserved
past_items-loop-preserved t c = passes_more (comma_by (form_at c.args.depth)) _ _ _ _ _ c.loop-test.true c.in-Some.ensures c.loop.invariant

pub past_items-returns : goal.past_items-returns
past_items-returns t c = passes_end (comma_by (form_at c.args.depth)) _ _ _ _ c.loop-test.false c.loop.invariant

pub past_parts-returns-in-None : goal.past_parts-returns-in-None
past_parts-returns-in-None t c = passes_stop (comma_by (part_by (form_at c.args.depth))) _ _ _ c.in-None.ensures c.loop.invariant

pub past_parts-loop-preserved : goal.past_parts-loop-preserved
past_parts-loop-preserved t c = passes_more (comma_by (part_by (form_at c.args.depth))) _ _ _ _ _ c.loop-test.true c.in-Some.ensures c.loop.invariant

pub past_parts-returns : goal.past_parts-returns
past_parts-returns t c = passes_end (comma_by (part_by (form_at c.args.depth))) _ _ _ _ c.loop-test.false c.loop.invariant
