use Rattle.std.proofs.Common.{◌≡◌, ◌++◌, map}
use Rattle.og_csubset.specs.Interface.{numbers_below}
use Rattle.og_model.specs.declared.EventId.TheVariants as event
use Rattle.og_cload.proofs.fields.add_outputs.Given as goal

abbrev pub invariant-loop-signal : goal.invariant-loop-signal
invariant-loop-signal l = l.events ≡ l.initial.events ++ map event.Output (numbers_below l.signal)
