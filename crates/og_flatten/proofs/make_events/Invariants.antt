use Rattle.std.proofs.Common.{◌≡◌, take, map}
use Rattle.og_flatten.specs.FlatCode.{event_word}
use Rattle.og_flatten.proofs.make_events.Given as goal

abbrev pub invariant-loop-signal : goal.invariant-loop-signal
invariant-loop-signal l = l.events ≡ map (event_word l.model) (take l.signal-index l.model.signals)
