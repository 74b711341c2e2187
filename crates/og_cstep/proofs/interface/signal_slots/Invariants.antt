use Rattle.std.proofs.Common.{◌≡◌, map}
use Rattle.og_csubset.specs.declared.CGlobal.{CGlobal}
use Rattle.og_csubset.specs.Interface.{numbers_below}
use Rattle.og_cstep.specs.Interfaces.{signal_slots}
use Rattle.og_cstep.proofs.interface.signal_slots.Given as goal

abbrev pub invariant-loop-signal : goal.invariant-loop-signal
invariant-loop-signal l = l.slots ≡ map (signal_slots (map (λ (g : CGlobal). g.name.bytes) l.globals) l.model) (numbers_below l.signal)
