use Rattle.std.proofs.Common.{map}
use Rattle.og_csubset.specs.declared.CStruct.{CStruct}
use Rattle.og_csubset.specs.Kinds.{place_in}
use Rattle.og_cload.proofs.Places.{place_from}
use Rattle.og_names.proofs.Loops.{Left}
use Rattle.og_ccells.proofs.layout.struct_place.Given as goal

abbrev pub invariant-loop-place : goal.invariant-loop-place
invariant-loop-place l = Left (λ ys. place_from l.place l.name (map (λ (s : CStruct). s.name.bytes) ys)) l.structs l.place (place_in l.name (map (λ (s : CStruct). s.name.bytes) l.structs))
