use Rattle.std.proofs.Common.{map}
use Rattle.std.specs.List.{flat_map}
use Rattle.og_front.specs.Names.{input_names}
use Rattle.og_front.specs.Rules.{key, with_names}
use Rattle.og_names.proofs.Loops.{Left}
use Rattle.og_front.proofs.build.add_all_in_inputs.Given as goal

abbrev pub invariant-loop-input : goal.invariant-loop-input
invariant-loop-input l =
    Left (λ ys. with_names l.names (map key (flat_map input_names ys))) l.inputs l.input-index (with_names l.initial.names (map key (flat_map input_names l.inputs)))
