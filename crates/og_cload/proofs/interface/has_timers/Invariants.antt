use Rattle.std.proofs.Common.{length}
use Rattle.std.specs.List.{list_all}
use Rattle.og_cload.specs.Names.{names_in}
use Rattle.og_csubset.specs.Kinds.{is_in}
use Rattle.og_csubset.specs.Interface.{numbers_below, timer_function}
use Rattle.og_names.proofs.Loops.{Left}
use Rattle.og_cload.proofs.interface.has_timers.Given as goal

abbrev pub invariant-loop-timer : goal.invariant-loop-timer
invariant-loop-timer l = Left (λ ys. list_all (λ k. is_in (timer_function l.model k) (names_in l.names)) ys) (numbers_below (length l.model.timers)) l.timer (list_all (λ k. is_in (timer_function l.model k) (names_in l.names)) (numbers_below (length l.model.timers)))
