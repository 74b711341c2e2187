use Rattle.std.proofs.Common.{map}
use Rattle.og_csubset.specs.declared.CFunction.{CFunction}
use Rattle.og_csubset.specs.Kinds.{place_in}
use Rattle.og_cload.proofs.Places.{place_from}
use Rattle.og_names.proofs.Loops.{Left}
use Rattle.og_cstep.proofs.entries.place_in.Given as goal

abbrev pub invariant-loop-place : goal.invariant-loop-place
invariant-loop-place l = Left (λ ys. place_from l.place l.name (map (λ (f : CFunction). f.name.bytes) ys)) l.functions l.place (place_in l.name (map (λ (f : CFunction). f.name.bytes) l.functions))
