use Rattle.std.proofs.Common.{map}
use Rattle.og_csubset.specs.declared.CGlobal.{CGlobal}
use Rattle.og_csubset.specs.Kinds.{place_in}
use Rattle.og_cload.proofs.Places.{place_from}
use Rattle.og_names.proofs.Loops.{Left}
use Rattle.og_cstatement.proofs.places.place_of_global.Given as goal

abbrev pub invariant-loop-place : goal.invariant-loop-place
invariant-loop-place l = Left (λ ys. place_from l.place l.name (map (λ (g : CGlobal). g.name.bytes) ys)) l.globals l.place (place_in l.name (map (λ (g : CGlobal). g.name.bytes) l.globals))
