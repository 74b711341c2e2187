use Rattle.std.proofs.Common.{◌≡◌, map}
use Rattle.og_csubset.specs.declared.CFunction.{CFunction}
use Rattle.og_csubset.specs.Interface.{numbers_below}
use Rattle.og_cstep.specs.Entries.{signal_entry}
use Rattle.og_cstep.proofs.entries.signal_entries.Given as goal

abbrev pub invariant-loop-signal : goal.invariant-loop-signal
invariant-loop-signal l = l.entries ≡ map (signal_entry (map (λ (f : CFunction). f.name.bytes) l.functions) l.model) (numbers_below l.signal)
