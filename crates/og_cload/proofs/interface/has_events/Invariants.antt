use Rattle.std.specs.List.{list_all}
use Rattle.og_csubset.specs.Loading.{has_event}
use Rattle.og_names.proofs.Loops.{Left}
use Rattle.og_cload.proofs.interface.has_events.Given as goal

abbrev pub invariant-loop-event : goal.invariant-loop-event
invariant-loop-event l = Left (λ ys. list_all (has_event l.program l.model) ys) l.events l.event-index (list_all (has_event l.program l.model) l.events)
