-- What it is to be a program of flat code over a model: the program loads, its plain text is one of C names and numbers and
-- nests at most 256 deep (C99 5.2.4.1 asks for less), and the program shows what the code shows in 64 bits at some pace of at
-- most four statements for each instruction: where a number leaves 64 bits, an index its array, or a divisor is zero, both are
-- stuck, and so they are where a value does not read. The program has as many statements as the code has at that
-- pace: no statement serves two instructions.
use Rattle.std.specs.Prelude.{◌≡◌, ℕ, ◌≤◌, List}
use Rattle.og_model.specs.declared.Model.{Model}
use Rattle.og_model.specs.Shown.{Stimulus}
use Rattle.og_ir.specs.declared.Ir.{Ir}
use Rattle.og_csubset.specs.declared.CProgram.{CProgram}
use Rattle.og_csubset.specs.Agreement.{AreStimuli, size}
use Rattle.og_csubset.specs.Loading.{Loads}
use Rattle.og_csubset.specs.Nesting.{nesting}
use Rattle.og_csubset.specs.Plain.{IsWellMade, plain_tokens}
use Rattle.og_csubset.specs.Paced.{Pace, IsPace, paced, paced_size}
use Rattle.og_csubset.specs.Run.{c}

pub record ShowsAtAPace (ir : Ir) (model : Model) (program : CProgram) : Type 0 where
  pub pace : Pace
  pub is_pace : IsPace pace
  pub few : (function place : ℕ) → pace function place ≤ 4
  pub sizes : size program ≡ paced_size pace ir
  pub shows : (stimuli : List Stimulus) → AreStimuli model stimuli → (statements : ℕ)
      → c program model stimuli statements ≡ paced pace ir model stimuli statements

pub record IsProgramOf (ir : Ir) (model : Model) (program : CProgram) : Type 0 where
  pub loads : Loads program model
  pub well_made : IsWellMade program
  pub within : nesting (plain_tokens program) ≤ 256
  pub shows : ShowsAtAPace ir model program
