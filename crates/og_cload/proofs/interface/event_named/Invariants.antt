use Rattle.og_csubset.specs.Reads.{event_named}
use Rattle.og_names.proofs.Loops.{Left}
use Rattle.og_cload.proofs.interface.event_named.Given as goal

abbrev pub invariant-loop-event : goal.invariant-loop-event
invariant-loop-event l = Left (λ ys. event_named l.model l.name ys) l.events l.event-index (event_named l.model l.name l.events)
