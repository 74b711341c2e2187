-- A run of code that is being followed: how many units of work were taken, how many statements were carried out, what was
-- shown, and which places were passed since the last unit. Each unit has a statement of its own, and between the beginnings
-- of two units no place is passed twice; what is passed before the first unit counts with it.
use Rattle.std.specs.Prelude.{◌≡◌, ℕ, zero, suc, ◌+◌, ◌*◌, ◌≤◌, Bool, true, List, ◌++◌, ◌⊎◌, length, slice_get, Some}
use Rattle.og_model.specs.Shown.{Event}
use Rattle.og_ir.specs.declared.Ir.{Ir}
use Rattle.og_ir.specs.declared.FlatFn.{FlatFn}
use Rattle.og_ir.specs.Steps.{Frame, Config, Ran, joined, exec}
use Rattle.og_csubset.specs.Paced.{Pace, exec_paced, paced_size}
use Rattle.og_follow.specs.Passing.{Passed, none_passed, with_place, passed}
use Rattle.og_follow.specs.Cuts.{places_of, units_in, BegunBetween, NoneTwice}

-- the units that are complete
abbrev pub complete : ℕ → ℕ
complete zero = zero
complete (suc units) = units

-- the places of a run so far, one after the other; where a place is not among those passed since the last unit,
-- another unit has begun since it was carried out
pub record Trail (step : Config → Ran Event) (unit_at : Frame → Bool) (first : Config) (units : ℕ) (events : List Event) (seen : Passed) (now : Config) : Type 0 where
  pub places : List Frame
  pub goes : (k : ℕ) → exec step (length places + k) first ≡ joined events (exec step k now)
  pub passes : (k : ℕ) → places_of step (length places + k) first ≡ places ++ places_of step k now
  pub begun : units_in unit_at places ≡ units
  pub kept : (i : ℕ) (frame : Frame) → slice_get places i ≡ Some frame → (seen frame.function frame.place ≡ true) ⊎ BegunBetween unit_at places i (length places)
  pub once : NoneTwice unit_at places

pub record Track (step : Config → Ran Event) (unit_at : Frame → Bool) (pace : Pace) (ir : Ir) (first : Config) (units statements : ℕ) (events : List Event) (seen : Passed) (now : Config) : Type 0 where
  pub goes : (k : ℕ) → exec_paced pace step (statements + k) 0 first ≡ joined events (exec_paced pace step k 0 now)
  pub least : units ≤ statements
  pub most : statements ≤ complete units * paced_size pace ir + passed pace seen ir
  pub trail : Trail step unit_at first units events seen now

-- the place of a frame is one of the code, or the end of a function
pub record Stands (ir : Ir) (frame : Frame) : Type 0 where
  pub function : FlatFn
  pub at : slice_get ir.functions frame.function ≡ Some function
  pub within : frame.place ≤ length function.code

-- the places that were passed since a unit that begins here, where so many units were begun before
abbrev pub since : ℕ → Passed → ℕ → ℕ → Passed
since zero seen f p = with_place seen f p
since (suc units) seen f p = with_place none_passed f p
