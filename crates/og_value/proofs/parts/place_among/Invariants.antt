use Rattle.og_names.proofs.Loops.{Left}
use Rattle.og_value.specs.Reads.{place_among}
use Rattle.og_value.proofs.Places.{shifted}
use Rattle.og_value.proofs.parts.place_among.Given as goal

abbrev pub invariant-loop-place : goal.invariant-loop-place
invariant-loop-place l = Left (λ ids. shifted l.place (place_among ids l.name.0)) l.ids l.place (place_among l.ids l.name.0)
