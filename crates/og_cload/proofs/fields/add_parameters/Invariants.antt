use Rattle.std.proofs.Common.{◌+◌, ◌++◌}
use Rattle.og_cload.specs.Fields.{fields_in}
use Rattle.og_csubset.specs.Interface as interface
use Rattle.og_names.proofs.Loops.{Left}
use Rattle.og_cload.proofs.fields.add_parameters.Given as goal

abbrev pub invariant-loop-place : goal.invariant-loop-place
invariant-loop-place l = Left (λ ys. fields_in l.fields.items ++ interface.parameters_from (l.place + 1) l.front ys) l.sorts l.place (fields_in l.initial.fields.items ++ interface.parameters_from 1 l.front l.sorts)
