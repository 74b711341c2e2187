use Rattle.og_front.specs.Names.{input_names}
use Rattle.og_front.proofs.Building.{names_more, input_added}
use Rattle.og_front.proofs.build.add_all_in_inputs.Goals as goal

pub loop-input-preserved : goal.loop-input-preserved
loop-input-preserved c =
    names_more input_names c.loop-input.names _ c.args.inputs.now c.loop-input.input-index c.input-item.result _ c.loop-input-test.true c.input-item.is
    (input_added c.input-item.result.signal c.input-item.result.next.state c.input-item.result.outputs c.as_slice.result.now c.loop-input.names _ _ _ c.as_slice.ensures
    c.in_ok-add_name.ensures.added c.in_ok-add_names.ensures c.in_ok-add_name-2.ensures.added) c.loop-input.invariant
