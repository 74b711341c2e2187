-- What it is to be the code of a model: it can be printed, it is never stuck, and at every pace it shows what the meaning of
-- the model shows (Z.101 section 11, as far as og_model says it). All units of work of the start, or of one stimulus,
-- together take at most so many statements: for each unit as many as there are in all functions, their ends counted, and one
-- more. How its runs are cut into single units, specs/Units says.
use Rattle.std.specs.Prelude.{ℕ, ◌+◌, ◌*◌}
use Rattle.og_model.specs.declared.Model.{Model}
use Rattle.og_model.specs.Run.{sdl}
use Rattle.og_ir.specs.declared.Ir.{Ir}
use Rattle.og_ir.specs.WholeSlots.{UsesWholeSlots}
use Rattle.og_csubset.specs.Agreement.{AreStimuli, SameRuns}
use Rattle.og_csubset.specs.Fair.{Fair}
use Rattle.og_csubset.specs.Paced.{Pace, IsPace, IsSafe, paced, paced_size}

-- so many statements are enough for n units
abbrev pub enough_at : Pace → Ir → ℕ → ℕ
enough_at pace ir n = n * (paced_size pace ir + 1)

pub record IsCodeOf (model : Model) (ir : Ir) : Type 0 where
  pub fair : Fair ir model
  pub whole : UsesWholeSlots ir
  pub safe : IsSafe ir model
  pub runs : (pace : Pace) → IsPace pace → SameRuns (AreStimuli model) (enough_at pace ir) (sdl model) (paced pace ir model)
