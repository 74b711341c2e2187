use Rattle.std.proofs.Common.{◌≡◌, ◌++◌, map, take}
use Rattle.og_cload.specs.Names.{names_in}
use Rattle.og_cload.proofs.names.add_events.Given as goal

abbrev pub invariant-loop-event : goal.invariant-loop-event
invariant-loop-event l = names_in l.names.items ≡ names_in l.initial.names.items ++ map (λ s. s.bytes) (take l.event-index l.events)
