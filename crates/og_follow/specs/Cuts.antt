-- A run of flat code, cut into units of work. Some instructions begin a unit, wherever they are carried out; a unit
-- lasts until the next one begins, and what is carried out before the first unit counts with it. In between no
-- instruction, and no function's end, is carried out twice.
use Rattle.std.specs.Prelude.{◌≡◌, ℕ, zero, suc, ◌+◌, ◌≤◌, ◌<◌, Bool, true, false, List, [], ◌∷◌, slice_get, take, Some}
use Rattle.og_model.specs.Shown.{Event}
use Rattle.og_model.specs.Units as Units
use Rattle.og_model.specs.Units.{Out}
use Rattle.og_ir.specs.Cells.{Cells}
use Rattle.og_ir.specs.Steps.{Frame, Config, Running, Over, Broken, Ran, exec}

-- the places of the first steps of a run; the place behind the last instruction of a function is its end
abbrev pub places_of : (Config → Ran Event) → ℕ → Config → List Frame
places_of step zero config = []
places_of step (suc n) (Running slots frame callers) = frame ∷ places_of step n (step (Running slots frame callers)).config
places_of step (suc n) (Over slots) = []
places_of step (suc n) (Broken trouble) = []

abbrev pub one_if : Bool → ℕ
one_if true = 1
one_if false = 0

-- how many units begin at these places
abbrev pub units_in : (Frame → Bool) → List Frame → ℕ
units_in begins [] = 0
units_in begins (f ∷ fs) = one_if (begins f) + units_in begins fs

-- a unit begins behind the i-th of these places, at the j-th or before it, and it is not the first one
pub record BegunBetween (begins : Frame → Bool) (places : List Frame) (i j : ℕ) : Type 0 where
  pub at : ℕ
  pub frame : Frame
  pub there : slice_get places at ≡ Some frame
  pub begun : begins frame ≡ true
  pub behind : i < at
  pub until : at ≤ j
  pub not_first : 1 ≤ units_in begins (take at places)

-- where a place is carried out twice, another unit has begun in between
abbrev pub NoneTwice : (Frame → Bool) → List Frame → Type 0
NoneTwice begins places =
    (i j : ℕ) (frame : Frame) → i < j → slice_get places i ≡ Some frame → slice_get places j ≡ Some frame → BegunBetween begins places i j

-- With n units the meaning runs so, and with so many steps the code does: it shows the same events and begins as many
-- units, and between two of them no place is carried out twice. Where the meaning has ended, the code has returned.
pub record IsCut {A : Type 0} (step : Config → Ran Event) (begins : Frame → Bool) (config : Config) (n : ℕ) (r : Units.Ran A) : Type 0 where
  pub steps : ℕ
  pub now : Config
  pub goes : exec step steps config ≡ record { events = r.events; config = now }
  pub once : NoneTwice begins (places_of step steps config)
  pub cut_off : r.outcome ≡ Out → units_in begins (places_of step steps config) ≡ n
  pub ended : (r.outcome ≡ Out → ⊥) → (units_in begins (places_of step steps config) + r.left ≡ n) × ((slots : List Cells) × (now ≡ Over slots))
