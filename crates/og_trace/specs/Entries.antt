-- What a run shows for one stimulus, how an answer tells its end, and where the machine then stands.
use Rattle.std.specs.Prelude.{◌≡◌, ℕ, ◌+◌, Bool, true, false, List, [], ◌∷◌, ◌++◌, Option, Some, None, map, slice_get, IsTrue, ⊤}
use Rattle.std.specs.List.{list_all}
use Rattle.og_names.specs.declared.Word.{Word}
use Rattle.og_types.specs.declared.TypeId.{TypeId}
use Rattle.og_types.specs.declared.Value.{Value}
use Rattle.og_model.specs.declared.Model.{Model}
use Rattle.og_model.specs.declared.Scope.{out-Scope}
use Rattle.og_model.specs.Forms.{is_plain_state}
use Rattle.og_model.specs.declared.EventId.{EventId}
use Rattle.og_model.specs.declared.EventId.TheVariants as event
use Rattle.og_model.specs.declared.StimId.{StimId}
use Rattle.og_model.specs.declared.StimId.TheVariants as stim
use Rattle.og_model.specs.Shown as shown
use Rattle.og_model.specs.Shown.{Event, End, Shown, Stimulus}
use Rattle.og_ir.specs.Cells.{Cells}
use Rattle.og_ir.specs.Steps.{Config, Running, Over, Broken, Ran, exec}
use Rattle.og_csubset.specs.declared.CProgram.{CProgram}
use Rattle.og_csubset.specs.Kinds.{global_names}
use Rattle.og_csubset.specs.Interface as interface
use Rattle.og_csubset.specs.Reads.{inputs_set}
use Rattle.og_csubset.specs.Agreement.{are_in}
use Rattle.og_csubset.specs.Run.{rule_of, runs, c_machine}
use Rattle.og_cstep.specs.declared.Advance.{Advance}
use Rattle.og_cstep.specs.declared.Advance.TheVariants.{Moved, Event as Shows, Rest, Fault, Stopped, Stuck}
use Rattle.og_cstep.specs.Machines.{Run, CanBegin, is_stimulus_of, argument_in, duration_of_timer}
use Rattle.og_stim.specs.declared.stimuli.Stimulus.{Stimulus as Line}
use Rattle.og_stim.specs.Stimuli.{signal_sorts}
use Rattle.og_stim.specs.Trace.{Bytes, event_line}
use Rattle.og_trace.specs.declared.Outcome.{Outcome}
use Rattle.og_trace.specs.declared.Outcome.TheVariants as outcome
use Rattle.og_trace.specs.Traces.{trace_of, outcome_of}

-- ---- one entry

-- how a run has ended, where its statements are used up
abbrev pub end_at : (List Cells → End) → Config → End
end_at ending (Running globals frame callers) = shown.Past
end_at ending (Over globals) = ending globals
end_at ending (Broken trouble) = shown.Stuck (rule_of trouble)

abbrev pub entry_of : (List Cells → End) → Ran Event → Shown
entry_of ending ran = record { events = ran.events; end = end_at ending ran.config }

abbrev pub given_by : StimId → List Value → Option Stimulus
given_by stim.Start values = None
given_by (stim.Signal k) values = Some (shown.Signal k values)
given_by (stim.Timer k) values = Some (shown.Expiry k)

-- a stimulus with its values, as a run takes it; the start is none
abbrev pub given_as : Line → Option Stimulus
given_as x = given_by x.id x.values

-- the run of a stimulus
abbrev pub ran_for : CProgram → Model → ℕ → Line → List Cells → Ran Event
ran_for P M steps x globals =
    exec (c_machine P M).step steps ((c_machine P M).begin (given_as x) globals)

-- the globals once the values of a stimulus are set
abbrev pub set_by : CProgram → Model → StimId → List Value → List Cells → List Cells
set_by P M stim.Start values globals = globals
set_by P M (stim.Signal k) values globals = inputs_set M (global_names P) (interface.inputs_of M k) values globals
set_by P M (stim.Timer k) values globals = globals

-- ---- answers

abbrev pub value_list : Option Value → List Value
value_list None = []
value_list (Some v) = v ∷ []

-- the values of an output's parameters from the i-th on, as far as their cells hold some
abbrev pub arguments_from : Run → ℕ → ℕ → List TypeId → List Value
arguments_from run k i [] = []
arguments_from run k i (t ∷ types) = value_list (argument_in run k i) ++ arguments_from run k (i + 1) types

-- the event of an answer, with the values and the duration that the globals tell
abbrev pub event_seen : Run → EventId → Event
event_seen run (event.Output k) = shown.Output k (arguments_from run k 0 (signal_sorts run.model k))
event_seen run (event.Set k) = shown.Set k (duration_of_timer run k)
event_seen run (event.Reset k) = shown.Reset k

-- the line of an event, where the answer is one
abbrev pub answer_lines : Model → Run → Advance → Bytes
answer_lines M run (Shows id) = event_line M (event_seen run id)
answer_lines M run Moved = []
answer_lines M run Rest = []
answer_lines M run (Fault kind place) = []
answer_lines M run Stopped = []
answer_lines M run (Stuck rule) = []

-- the answer says how the run has ended
abbrev pub is_end : Advance → Bool
is_end (Shows id) = false
is_end Moved = false
is_end Rest = true
is_end (Fault kind place) = true
is_end Stopped = true
is_end (Stuck rule) = true

-- the answer where the statements are used up
abbrev pub pause_answer : Config → Advance
pause_answer (Running globals frame callers) = Moved
pause_answer (Over globals) = Moved
pause_answer (Broken trouble) = Stuck (rule_of trouble)

-- the outcome of a run over a file that ends here, none where the next stimulus can come
abbrev pub outcome_told : Advance → Option Outcome
outcome_told (Shows id) = Some outcome.Past
outcome_told Moved = Some outcome.Past
outcome_told Rest = None
outcome_told (Fault kind place) = Some outcome.Faulted
outcome_told Stopped = None
outcome_told (Stuck rule) = Some outcome.Stuck

-- ---- where the machine stands

-- it runs or is broken
abbrev pub IsLive : Config → Type 0
IsLive (Running globals frame callers) = ⊤
IsLive (Over globals) = ⊥
IsLive (Broken trouble) = ⊤

abbrev pub HasCells : Config → List Cells → Type 0
HasCells (Running globals frame callers) cells = ⊤
HasCells (Over globals) cells = cells ≡ globals
HasCells (Broken trouble) cells = ⊤

-- an answer after which the next stimulus can come was the last one
abbrev pub IsLast : Advance → Option Advance → Type 0
IsLast (Shows id) last = ⊤
IsLast Moved last = ⊤
IsLast Rest last = last ≡ Some Rest
IsLast (Fault kind place) last = ⊤
IsLast Stopped last = last ≡ Some Stopped
IsLast (Stuck rule) last = ⊤

-- where a run has come to, with the answer that tells it
pub record StandsAt (P : CProgram) (M : Model) (place : Config) (answer : Advance) (run : Run) : Type 0 where
  pub program : run.program ≡ P
  pub model : run.model ≡ M
  pub config : run.config ≡ place
  pub cells : HasCells place run.cells
  pub last : IsLast answer run.last

-- the next stimulus can come
pub record IsReady (P : CProgram) (M : Model) (globals : List Cells) (run : Run) : Type 0 where
  pub program : run.program ≡ P
  pub model : run.model ≡ M
  pub cells : run.cells ≡ globals
  pub config : run.config ≡ Over globals
  pub can : CanBegin run.config run.last

abbrev pub IsReadyAt : CProgram → Model → Config → Run → Type 0
IsReadyAt P M (Running globals frame callers) run = ⊥
IsReadyAt P M (Over globals) run = IsReady P M globals run
IsReadyAt P M (Broken trouble) run = ⊥

-- ---- several stimuli

-- as many values as there are parameters, each in its type
abbrev pub AreValuesOf : Model → StimId → List Value → Type 0
AreValuesOf M stim.Start values = ⊤
AreValuesOf M (stim.Signal k) values = IsTrue (are_in M (interface.signal_sorts M k) values)
AreValuesOf M (stim.Timer k) values = ⊤

-- a stimulus of the model, or the start, with its values
pub record IsStimulus (M : Model) (x : Line) : Type 0 where
  pub can : IsTrue (is_stimulus_of M x.id)
  pub values : AreValuesOf M x.id x.values

pub record AreStimuli (M : Model) (xs : List Line) : Type 0 where
  pub each : (i : ℕ) (x : Line) → slice_get xs i ≡ Some x → IsStimulus M x

-- what the program shows for these stimuli, from these globals
abbrev pub shown_for : CProgram → Model → ℕ → List Line → List Cells → List Shown
shown_for P M steps xs globals = runs (c_machine P M) steps (map given_as xs) globals

abbrev pub lines_for : CProgram → Model → List Word → ℕ → List Line → List Cells → Bytes
lines_for P M files steps xs globals = trace_of M files xs (shown_for P M steps xs globals)

-- the outcome, where this one comes behind the last stimulus
abbrev pub outcome_for : CProgram → Model → ℕ → List Line → List Cells → Outcome → Outcome
outcome_for P M steps xs globals behind = outcome_of behind (shown_for P M steps xs globals)

-- ---- models

-- a model of basic states without timers and variables, whose signals may have parameters
pub record IsPlain (M : Model) : Type 0 where
  pub no_timers : M.timers ≡ []
  pub no_variables : M.variables ≡ []
  pub states : IsTrue (list_all is_plain_state (out-Scope M.root).states)
