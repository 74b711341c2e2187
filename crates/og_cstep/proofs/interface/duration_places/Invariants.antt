use Rattle.std.proofs.Common.{◌≡◌, map}
use Rattle.og_csubset.specs.declared.CGlobal.{CGlobal}
use Rattle.og_csubset.specs.Interface.{numbers_below}
use Rattle.og_cstep.specs.Interfaces.{duration_place}
use Rattle.og_cstep.proofs.interface.duration_places.Given as goal

abbrev pub invariant-loop-timer : goal.invariant-loop-timer
invariant-loop-timer l = l.places ≡ map (duration_place (map (λ (g : CGlobal). g.name.bytes) l.globals) l.model) (numbers_below l.timer)
