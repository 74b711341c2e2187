use Rattle.std.proofs.Common.{◌++◌}
use Rattle.std.specs.Prelude.{flat_map}
use Rattle.og_flatten.specs.Slots.{slots_of, inputs_of}
use Rattle.og_names.proofs.Loops.{Left}
use Rattle.og_flatten.proofs.slots.put_inputs.Given as goal

abbrev pub invariant-loop-signal : goal.invariant-loop-signal
invariant-loop-signal l =
    Left (λ ys. l.slots ++ flat_map (λ signal. slots_of (inputs_of l.model signal)) ys) l.model.signals l.signal-index (l.initial.slots ++ flat_map (λ signal. slots_of (inputs_of l.model signal)) l.model.signals)
