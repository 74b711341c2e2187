use Rattle.std.proofs.Common.{◌++◌, map}
use Rattle.std.specs.List.{flat_map}
use Rattle.og_front.specs.declared.syntax.StateText.{StateText}
use Rattle.og_front.specs.ModelOf.{input_body}
use Rattle.og_names.proofs.Loops.{Left}
use Rattle.og_front.proofs.build.add_bodies.Given as goal

abbrev pub invariant-loop-state : goal.invariant-loop-state
invariant-loop-state l =
    Left (λ ys. l.bodies ++ flat_map (λ (state : StateText). map (input_body l.tables) state.inputs) ys) l.states l.state-index
    (l.initial.bodies ++ flat_map (λ (state : StateText). map (input_body l.tables) state.inputs) l.states)
