use Rattle.og_front.proofs.Additions.{handled_more}
use Rattle.og_front.proofs.rules.first_on_states.Goals as goal

pub loop-state-preserved : goal.loop-state-preserved
loop-state-preserved c =
    handled_more c.args.tables.now c.loop-state.handled.keys _ c.loop-state.first _ c.args.states.now c.loop-state.state-index c.state-item.result _
    c.loop-state-test.true c.state-item.is c.in_ok-note_repeated_in_state.ensures.handled c.in_ok-note_repeated_in_state.ensures.first c.loop-state.invariant
