use Rattle.std.proofs.Common.{◌≡◌, ◌++◌, take, map}
use Rattle.og_csubset.specs.Interface.{name_of, number_field}
use Rattle.og_flatten.specs.Slots.{slots_of}
use Rattle.og_flatten.proofs.slots.put_timers.Given as goal

abbrev pub invariant-loop-timer : goal.invariant-loop-timer
invariant-loop-timer l = l.slots ≡ l.initial.slots ++ slots_of (map (λ id. number_field (l.prefix ++ name_of l.model id)) (take l.timer-index l.model.timers))
