use Rattle.std.proofs.Common.{◌++◌, map}
use Rattle.og_csubset.specs.declared.CGlobal.{CGlobal}
use Rattle.og_names.proofs.Loops.{Left}
use Rattle.og_cstep.specs.Interfaces.{region_slot}
use Rattle.og_cstep.proofs.interface.region_slots.Given as goal

abbrev pub invariant-loop-region : goal.invariant-loop-region
invariant-loop-region l =
    Left (λ ys. l.slots ++ map (region_slot (map (λ (g : CGlobal). g.name.bytes) l.globals) l.model) ys) l.regions l.region-index
    (map (region_slot (map (λ (g : CGlobal). g.name.bytes) l.globals) l.model) l.regions)
