use Rattle.std.proofs.Common.{◌≡◌, ◌++◌, take}
use Rattle.og_flatten.specs.Slots.{slots_of, control_fields}
use Rattle.og_flatten.proofs.slots.put_control.Given as goal

abbrev pub invariant-loop-name : goal.invariant-loop-name
invariant-loop-name l = l.slots ≡ l.initial.slots ++ take l.name-index (slots_of control_fields)
