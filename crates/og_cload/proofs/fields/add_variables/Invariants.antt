use Rattle.std.proofs.Common.{◌++◌, map}
use Rattle.og_cload.specs.Fields.{fields_in}
use Rattle.og_csubset.specs.Interface as interface
use Rattle.og_names.proofs.Loops.{Left}
use Rattle.og_cload.proofs.fields.add_variables.Given as goal

abbrev pub invariant-loop-variable : goal.invariant-loop-variable
invariant-loop-variable l = Left (λ ys. fields_in l.fields.items ++ map (interface.variable_field l.model) ys) l.variables l.variable-index (fields_in l.initial.fields.items ++ map (interface.variable_field l.model) l.variables)
