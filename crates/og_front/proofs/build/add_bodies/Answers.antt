use Rattle.std.proofs.Common.{List, map, ◌++◌, ap, ◌∙◌}
use Rattle.og_front.specs.declared.syntax.InputText.{InputText}
use Rattle.og_front.specs.declared.syntax.StateText.{StateText}
use Rattle.og_front.specs.ModelOf.{input_body}
use Rattle.og_front.proofs.Building.{pieces_more}
use Rattle.og_front.proofs.build.add_bodies.Goals as goal

pub loop-state-preserved : goal.loop-state-preserved
loop-state-preserved c =
    pieces_more (λ (state : StateText). map (input_body c.args.tables.now) state.inputs) c.loop-state.bodies _ c.args.states.now c.loop-state.state-index c.state-item.result _ c.loop-state-test.true c.state-item.is
    (c.in_ok-add_bodies_of.ensures ∙ ap (λ (inputs : List InputText). c.loop-state.bodies ++ map (input_body c.args.tables.now) inputs) c.as_slice.ensures) c.loop-state.invariant
