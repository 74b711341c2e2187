use Rattle.std.proofs.Common.{◌++◌, map}
use Rattle.og_cload.specs.Fields.{fields_in}
use Rattle.og_csubset.specs.Interface as interface
use Rattle.og_names.proofs.Loops.{Left}
use Rattle.og_cload.proofs.fields.add_timer_fields.Given as goal

abbrev pub invariant-loop-timer : goal.invariant-loop-timer
invariant-loop-timer l = Left (λ ys. fields_in l.fields.items ++ map (interface.timer_field l.model) ys) l.timers l.timer-index (fields_in l.initial.fields.items ++ map (interface.timer_field l.model) l.timers)
