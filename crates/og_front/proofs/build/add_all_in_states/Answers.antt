use Rattle.og_front.specs.Names.{state_names}
use Rattle.og_front.proofs.Building.{names_more, state_added}
use Rattle.og_front.proofs.build.add_all_in_states.Goals as goal

pub loop-state-preserved : goal.loop-state-preserved
loop-state-preserved c =
    names_more state_names c.loop-state.names _ c.args.states.now c.loop-state.state-index c.state-item.result _ c.loop-state-test.true c.state-item.is
    (state_added c.state-item.result.name c.state-item.result.inputs c.as_slice.result.now c.loop-state.names _ _ c.as_slice.ensures c.in_ok-add_name.ensures.added c.in_ok-add_all_in_inputs.ensures)
    c.loop-state.invariant
