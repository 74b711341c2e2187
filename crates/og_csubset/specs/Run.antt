-- What a program of the C subset shows over a model: for the start, and then for each stimulus of a list, its events and how
-- it ended, where at most so many statements are carried out each time. A stimulus sets the globals of its values and calls
-- its function. When the last function has returned, the end is read from the globals, which costs nothing. Past says that
-- so many statements were carried out and the last function has not returned; it comes before anything that the next
-- statement would do. Nothing follows a fault, Past or a program that is stuck. After STOP a stimulus calls its function as
-- before.
use Rattle.std.specs.Prelude.{ℕ, List, [], ◌∷◌, Option, Some, None, map}
use Rattle.og_model.specs.declared.Model.{Model}
use Rattle.og_model.specs.declared.StuckRule.{StuckRule}
use Rattle.og_model.specs.declared.StuckRule.TheVariants as stuck
use Rattle.og_model.specs.Shown.{Event, End, Rest, Fault, Stopped, Past, Stuck, Shown, Stimulus, Signal, Expiry}
use Rattle.og_ir.specs.Cells.{Cells}
use Rattle.og_ir.specs.Arithmetic.{Trouble, Overflow, Index, Divide, Value as Unread}
use Rattle.og_ir.specs.Steps.{Config, Running, Over, Broken, Ran, exec}
use Rattle.og_csubset.specs.declared.CProgram.{CProgram}
use Rattle.og_csubset.specs.Kinds.{place_in, global_names, function_names, first_globals}
use Rattle.og_csubset.specs.Interface.{inputs_of, start_function, signal_function, timer_function}
use Rattle.og_csubset.specs.Reads.{event_of, end_of, inputs_set}
use Rattle.og_csubset.specs.Step.{cstep}

-- the four ways of being stuck
abbrev pub rule_of : Trouble → StuckRule
rule_of Overflow = stuck.Overflow
rule_of Index = stuck.Index
rule_of Divide = stuck.Divide
rule_of Unread = stuck.Value

-- What can be run over a list of stimuli: how the start, which is None, and a stimulus begin, what one step does, and how a
-- run that is over has ended.
pub record Machine : Type 0 where
  pub begin : Option Stimulus → List Cells → Config
  pub step : Config → Ran Event
  pub ending : List Cells → End

-- a run at rest and one after STOP can be gone on with
abbrev pub goes_on : {A : Type 0} → End → A → A → A
goes_on (Rest paths variables timers) more none = more
goes_on (Stopped variables) more none = more
goes_on (Fault kind place variables timers) more none = none
goes_on Past more none = none
goes_on (Stuck rule) more none = none

-- what the run shows, where more is what further stimuli show
abbrev pub shown_by : (List Cells → End) → (List Cells → List Shown) → List Event → Config → List Shown
shown_by ending more events (Running globals frame callers) = record { events = events; end = Past } ∷ []
shown_by ending more events (Broken trouble) = record { events = events; end = Stuck (rule_of trouble) } ∷ []
shown_by ending more events (Over globals) =
    record { events = events; end = ending globals } ∷ goes_on (ending globals) (more globals) []

abbrev pub shown_of : (List Cells → End) → (List Cells → List Shown) → Ran Event → List Shown
shown_of ending more ran = shown_by ending more ran.events ran.config

-- the stimuli one after the other, with so many steps each
abbrev pub runs : Machine → ℕ → List (Option Stimulus) → List Cells → List Shown
runs machine steps [] globals = []
runs machine steps (stimulus ∷ stimuli) globals =
    shown_of machine.ending (runs machine steps stimuli) (exec machine.step steps (machine.begin stimulus globals))

-- the start, and then the stimuli
abbrev pub all_stimuli : List Stimulus → List (Option Stimulus)
all_stimuli stimuli = None ∷ map Some stimuli

-- a call of a function from outside
abbrev pub entered : Option ℕ → List Cells → Config
entered None globals = Broken Unread
entered (Some function) globals = Running globals (record { function = function; place = 0 }) []

-- how a stimulus begins, where functions and globals have these names
abbrev pub begun : Model → List (List ℕ) → List (List ℕ) → Option Stimulus → List Cells → Config
begun model functions names None globals = entered (place_in start_function functions) globals
begun model functions names (Some (Signal k values)) globals =
    entered (place_in (signal_function model k) functions) (inputs_set model names (inputs_of model k) values globals)
begun model functions names (Some (Expiry k)) globals = entered (place_in (timer_function model k) functions) globals

-- a program over a model
abbrev pub c_machine : CProgram → Model → Machine
c_machine program model = record {
  begin = begun model (function_names program) (global_names program);
  step = cstep (event_of model (global_names program)) program;
  ending = end_of model (global_names program);
}

-- what the program shows with at most so many statements for each stimulus
unfoldable pub c : CProgram → Model → List Stimulus → ℕ → List Shown
c program model stimuli steps =
    runs (c_machine program model) steps (all_stimuli stimuli) (first_globals program)
