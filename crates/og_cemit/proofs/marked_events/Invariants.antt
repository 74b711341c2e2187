use Rattle.std.proofs.Common.{◌≡◌, take}
use Rattle.og_cemit.specs.Emitted.{events_from}
use Rattle.og_cemit.proofs.marked_events.Given as goal

abbrev pub invariant-loop-number : goal.invariant-loop-number
invariant-loop-number l = l.events ≡ events_from l.marks 0 (take l.number l.names)
