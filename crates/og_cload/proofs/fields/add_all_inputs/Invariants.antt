use Rattle.std.proofs.Common.{◌++◌}
use Rattle.std.specs.List.{flat_map}
use Rattle.og_cload.specs.Fields.{fields_in}
use Rattle.og_csubset.specs.Interface as interface
use Rattle.og_names.proofs.Loops.{Left}
use Rattle.og_cload.proofs.fields.add_all_inputs.Given as goal

abbrev pub invariant-loop-signal : goal.invariant-loop-signal
invariant-loop-signal l = Left (λ ys. fields_in l.fields.items ++ flat_map (interface.inputs_of l.model) (interface.incoming_from l.signal ys)) l.signals l.signal (fields_in l.initial.fields.items ++ flat_map (interface.inputs_of l.model) (interface.incoming_from 0 l.signals))
