-- What code does at the start and at each stimulus, where it answers as the meaning of a model does: it comes to its end with
-- the same events, its slots standing for what the process is then, or it has shown as much and runs on.
use Rattle.std.specs.Prelude.{◌≡◌, ℕ, ◌+◌, ◌*◌, ◌≤◌, List, [], Some, None, IsTrue}
use Rattle.og_model.specs.declared.Model.{Model}
use Rattle.og_model.specs.Shown as Shows
use Rattle.og_model.specs.Shown.{Event, Stimulus}
use Rattle.og_model.specs.Units.{State, Outcome, Done, Stop, Fault, Out, Ran}
use Rattle.og_model.specs.Configuration.{Active, paths_of}
use Rattle.og_model.specs.Run.{first_state, start, step}
use Rattle.og_ir.specs.Cells.{Cells}
use Rattle.og_ir.specs.Arithmetic.{Trouble}
use Rattle.og_ir.specs.Steps as Steps
use Rattle.og_ir.specs.Steps.{Frame, Config, Running, Over, Broken, quiet}
use Rattle.og_csubset.specs.Agreement.{is_stimulus}
use Rattle.og_csubset.specs.Paced.{Pace, IsPace, exec_paced}
use Rattle.og_csubset.specs.Run.{Machine}

-- a run that is over or broken stays as it is
pub record Stays {E : Type 0} (step : Config → Steps.Ran E) : Type 0 where
  pub over : (slots : List Cells) → step (Over slots) ≡ quiet (Over slots)
  pub broken : (trouble : Trouble) → step (Broken trouble) ≡ quiet (Broken trouble)

-- so many statements from a configuration on
abbrev pub after : Machine → Pace → ℕ → Config → Steps.Ran Event
after machine pace n config = exec_paced pace machine.step n 0 config

-- the code comes to its end within n units, having shown these events
pub record Ended (machine : Machine) (pace : Pace) (size : ℕ) (config : Config) (n : ℕ) (events : List Event) (slots : List Cells) : Type 0 where
  pub statements : ℕ
  pub goes : after machine pace statements config ≡ record { events = events; config = Over slots }
  pub most : 1 ≤ n → statements ≤ n * (size + 1)

-- the code has shown these events when n units are used up, and runs on
pub record RunsOn (machine : Machine) (pace : Pace) (size : ℕ) (config : Config) (n : ℕ) (events : List Event) : Type 0 where
  pub statements : ℕ
  pub slots : List Cells
  pub frame : Frame
  pub callers : List Frame
  pub goes : after machine pace statements config ≡ record { events = events; config = Running slots frame callers }
  pub least : n ≤ statements
  pub most : 1 ≤ n → statements ≤ n * (size + 1)

-- the slots of a process at rest, and those of one that has stopped
abbrev pub AtRest : Type 1
AtRest = Active → State → List Cells → Type 0

abbrev pub AtHalt : Type 1
AtHalt = State → List Cells → Type 0

-- the code answers as something that is done with n units does
abbrev pub AnswersBy : AtRest → AtHalt → Machine → Pace → ℕ → Config → ℕ → Outcome Active → List Event → State → Type 0
AnswersBy Rests Halts machine pace size config n (Done a) events s =
    (slots : List Cells) × Ended machine pace size config n events slots × Rests a s slots
AnswersBy Rests Halts machine pace size config n Stop events s =
    (slots : List Cells) × Ended machine pace size config n events slots × Halts s slots
AnswersBy Rests Halts machine pace size config n (Fault kind place) events s =
    (slots : List Cells) × Ended machine pace size config n events slots
    × (machine.ending slots ≡ Shows.Fault kind place s.store.variables s.timers)
AnswersBy Rests Halts machine pace size config n Out events s = RunsOn machine pace size config n events

abbrev pub Answers : AtRest → AtHalt → Machine → Pace → ℕ → Config → ℕ → Ran Active → Type 0
Answers Rests Halts machine pace size config n r = AnswersBy Rests Halts machine pace size config n r.outcome r.events r.state

-- a process that has stopped shows nothing and stays so
abbrev pub StaysHalted : AtHalt → Machine → Pace → ℕ → Config → State → Type 0
StaysHalted Halts machine pace size config s =
    (slots : List Cells) × ((n : ℕ) → Ended machine pace size config n [] slots) × Halts s slots

-- The code answers the start and each stimulus.
pub record Simulates (M : Model) (machine : Machine) (pace : Pace) (size : ℕ) (first : List Cells) (Rests : AtRest) (Halts : AtHalt) : Type 0 where
  pub is_pace : IsPace pace
  pub stays : Stays machine.step
  pub rest_is_shown : (a : Active) (s : State) (slots : List Cells) → Rests a s slots
      → machine.ending slots ≡ Shows.Rest (paths_of M.root a) s.store.variables s.timers
  pub halt_is_shown : (s : State) (slots : List Cells) → Halts s slots → machine.ending slots ≡ Shows.Stopped s.store.variables
  pub starts : (n : ℕ) → Answers Rests Halts machine pace size (machine.begin None first) n (start M n (first_state M))
  pub takes : (a : Active) (s : State) (slots : List Cells) → Rests a s slots → (x : Stimulus) → IsTrue (is_stimulus M x) → (n : ℕ)
      → Answers Rests Halts machine pace size (machine.begin (Some x) slots) n (step M a x n s)
  pub halted : (s : State) (slots : List Cells) → Halts s slots → (x : Stimulus) → IsTrue (is_stimulus M x)
      → StaysHalted Halts machine pace size (machine.begin (Some x) slots) s
