use Rattle.std.proofs.Common.{map}
use Rattle.og_cstatement.specs.Meaning.{reached, distance_of}
use Rattle.og_cstatement.specs.declared.code.Place.{out-Place}
use Rattle.og_names.proofs.Loops.{Left}
use Rattle.og_cstatement.proofs.value.+value.Given as goal

abbrev pub invariant-place_of-loop-term : goal.invariant-place_of-loop-term
invariant-place_of-loop-term l =
    Left (λ ys. reached l.at (map (distance_of l.cells) ys)) l.term-items l.term-index (reached (out-Place l.place).offset (map (distance_of l.cells) (out-Place l.place).terms))
