use Rattle.std.proofs.Common.{◌≡◌, map}
use Rattle.og_csubset.specs.declared.CFunction.{CFunction}
use Rattle.og_csubset.specs.Interface.{numbers_below}
use Rattle.og_cstep.specs.Entries.{timer_entry}
use Rattle.og_cstep.proofs.entries.timer_entries.Given as goal

abbrev pub invariant-loop-timer : goal.invariant-loop-timer
invariant-loop-timer l = l.entries ≡ map (timer_entry (map (λ (f : CFunction). f.name.bytes) l.functions) l.model) (numbers_below l.timer)
