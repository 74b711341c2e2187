-- A small run for worked examples: its places are 1, 0, 2 and 0 of one function, and at 0 a step of a body begins.
use Rattle.std.specs.Prelude.{ℕ, if◌then◌else◌, nat_eq, List, [], ◌∷◌, Option, Some, None}
use Rattle.og_ir.specs.Steps.{Frame}
use Rattle.og_flatten.specs.Units.{Cost, A_step}

abbrev pub at_place : ℕ → Frame
at_place p = record { function = 7; place = p }

abbrev pub step_begins : Frame → Option Cost
step_begins frame = if nat_eq frame.place 0 then Some (A_step 4 1) else None

abbrev pub places_passed : List Frame
places_passed = at_place 1 ∷ at_place 0 ∷ at_place 2 ∷ at_place 0 ∷ []
