use Rattle.std.proofs.Common.{map}
use Rattle.std.specs.List.{flat_map}
use Rattle.og_front.specs.Names.{state_names}
use Rattle.og_front.specs.Rules.{key, with_names}
use Rattle.og_names.proofs.Loops.{Left}
use Rattle.og_front.proofs.build.add_all_in_states.Given as goal

abbrev pub invariant-loop-state : goal.invariant-loop-state
invariant-loop-state l =
    Left (λ ys. with_names l.names (map key (flat_map state_names ys))) l.states l.state-index (with_names l.initial.names (map key (flat_map state_names l.states)))
