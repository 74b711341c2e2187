use Rattle.std.specs.List.{list_all}
use Rattle.og_names.proofs.Loops.{Left}
use Rattle.og_cstep.specs.Slots.{number_of, holds_truth}
use Rattle.og_cstep.proofs.ends.are_timers_held.Given as goal

abbrev pub invariant-loop-timer : goal.invariant-loop-timer
invariant-loop-timer l = Left (λ ys. list_all (holds_truth (number_of l.extents l.cells)) ys) l.timers l.timer-index (list_all (holds_truth (number_of l.extents l.cells)) l.timers)
