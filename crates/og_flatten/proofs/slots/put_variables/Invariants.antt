use Rattle.std.proofs.Common.{◌≡◌, ◌++◌, take, map}
use Rattle.og_csubset.specs.Interface.{variable_field}
use Rattle.og_flatten.specs.Slots.{slots_of}
use Rattle.og_flatten.proofs.slots.put_variables.Given as goal

abbrev pub invariant-loop-variable : goal.invariant-loop-variable
invariant-loop-variable l = l.slots ≡ l.initial.slots ++ slots_of (map (variable_field l.model) (take l.variable-index l.model.variables))
