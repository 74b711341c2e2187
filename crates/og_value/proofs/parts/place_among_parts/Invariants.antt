use Rattle.og_names.proofs.Loops.{Left}
use Rattle.og_value.specs.Reads.{place_among, names_of}
use Rattle.og_value.proofs.Places.{shifted}
use Rattle.og_value.proofs.parts.place_among_parts.Given as goal

abbrev pub invariant-loop-place : goal.invariant-loop-place
invariant-loop-place l = Left (λ parts. shifted l.place (place_among (names_of parts) l.name.0)) l.parts l.place (place_among (names_of l.parts) l.name.0)
