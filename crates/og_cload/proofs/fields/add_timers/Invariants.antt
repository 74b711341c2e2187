use Rattle.std.proofs.Common.{◌≡◌, ◌++◌, [], ◌∷◌}
use Rattle.std.specs.List.{flat_map}
use Rattle.og_csubset.specs.Interface.{numbers_below}
use Rattle.og_model.specs.declared.EventId.TheVariants as event
use Rattle.og_cload.proofs.fields.add_timers.Given as goal

abbrev pub invariant-loop-timer : goal.invariant-loop-timer
invariant-loop-timer l = l.events ≡ l.initial.events ++ flat_map (λ k. event.Set k ∷ event.Reset k ∷ []) (numbers_below l.timer)
