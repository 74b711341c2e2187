use Rattle.std.proofs.Common.{List, [], map, ◌++◌}
use Rattle.og_front.specs.declared.syntax.StateText.{StateText}
use Rattle.og_front.specs.Building.{bare_state}
use Rattle.og_front.specs.ModelOf.{firsts_from}
use Rattle.og_names.proofs.Loops.{Left}
use Rattle.og_front.proofs.build.bare_states.Given as goal

abbrev pub invariant-loop-text : goal.invariant-loop-text
invariant-loop-text l =
    Left (λ (ys : List StateText). l.states.items ++ map (bare_state l.names) (firsts_from l.seen (map (λ state. state.name) ys))) l.texts l.text-index
    (map (bare_state l.names) (firsts_from [] (map (λ state. state.name) l.texts)))
