use Rattle.std.proofs.Common.{◌++◌, ap, ◌∙◌}
use Rattle.og_cemit.specs.Emitted.{event_if}
use Rattle.og_cemit.proofs.Joins.{event_more}
use Rattle.og_cemit.proofs.marked_events.Goals as goal

pub loop-number-preserved : goal.loop-number-preserved
loop-number-preserved c =
    event_more c.args.marks.now c.args.names.now c.loop-number.number c.index-names-number.result
    c.loop-number-test.true c.index-names-number.is c.loop-number.invariant
    (c.in_ok-push_event.ensures ∙ ap (λ b. c.loop-number.events ++ event_if b c.index-names-number.result) c.is_marked.ensures)
