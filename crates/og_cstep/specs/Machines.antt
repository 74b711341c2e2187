-- A machine as its callers see it: its program and model, the cells of its globals, where its run is, and the last answer of a
-- step; and what each call does to that.
use Rattle.std.specs.Prelude.{◌≡◌, ℕ, ℤ, pos, negsuc, List, [], ◌∷◌, Bool, true, false, not, nat_lt, Option, Some, None, map, length, slice_get, unwrap_or, ⊤}
use Rattle.og_types.specs.declared.Value.{Value}
use Rattle.og_model.specs.declared.Model.{Model}
use Rattle.og_model.specs.declared.Signal as signal
use Rattle.og_model.specs.declared.StimId.{StimId}
use Rattle.og_model.specs.declared.StimId.TheVariants.{Start, Signal, Timer}
use Rattle.og_model.specs.RegionTypes.{Region}
use Rattle.og_model.specs.Regions.{regions}
use Rattle.og_model.specs.Shown as shown
use Rattle.og_model.specs.Shown.{Stimulus}
use Rattle.og_ir.specs.Arithmetic.{is_same}
use Rattle.og_ir.specs.Cells.{◌>>=◌, Cells}
use Rattle.og_ir.specs.Reading.{only_if}
use Rattle.og_ir.specs.Steps.{Config, Running, Over, Broken, Ran}
use Rattle.og_csubset.specs.declared.CProgram.{CProgram}
use Rattle.og_csubset.specs.declared.LoadRule.{LoadRule}
use Rattle.og_csubset.specs.Kinds.{first_globals, function_names, global_names}
use Rattle.og_csubset.specs.Interface.{Field, region_field, variable_fields, timer_field, duration_of, inputs_of, outputs_of, start_function, signal_function, timer_function}
use Rattle.og_csubset.specs.Reads.{Globals, number_named, duration_in, value_of_field, put_named, cells_of_shape, end_of}
use Rattle.og_csubset.specs.Run.{begun}
use Rattle.og_ccells.specs.Vectors.{trees_of, numbers_of}
use Rattle.og_cstatement.specs.declared.position.Position.{Position}
use Rattle.og_cstatement.specs.Positions.{config_of}
use Rattle.og_cstatement.specs.Links.{cells_after, step_of}
use Rattle.og_cstep.specs.Answered.{answer_by}
use Rattle.og_cstep.specs.declared.Advance.{Advance}
use Rattle.og_cstep.specs.declared.Advance.TheVariants as advance
use Rattle.og_cstep.specs.declared.Advance.TheVariants.{Moved, Event, Rest, Fault, Stopped}
use Rattle.og_cstep.specs.declared.Machine.{Machine}
use Rattle.og_cstep.specs.declared.LoadError.{LoadError}
use Rattle.og_cstep.specs.declared.LoadError.TheVariants.{BadProgram, NoMemory}

-- The cells stay where a run is broken, and else are those of the run.
pub record Run : Type 0 where
  pub program : CProgram
  pub model : Model
  pub cells : List Cells
  pub config : Config
  pub last : Option Advance

abbrev pub run_at : CProgram → Model → List Cells → Position → Option Advance → Run
run_at program model globals position last =
    record { program = program; model = model; cells = globals; config = config_of globals position; last = last }

abbrev pub run_of : Machine → Run
run_of m = run_at m.program m.model (trees_of m.program m.cells.items) m.position m.last

-- ---- loading

-- before its first stimulus, with each cell 0
abbrev pub loaded : CProgram → Model → Run
loaded program model =
    record { program = program; model = model; cells = first_globals program; config = Over (first_globals program); last = None }

-- the first broken rule is reported, and want of memory says nothing
abbrev pub Refuses : LoadError → Option LoadRule → Type 0
Refuses (BadProgram rule) found = found ≡ Some rule
Refuses (NoMemory met) found = ⊤

-- ---- stimuli

-- the last function has returned, and the run can be gone on with
abbrev pub CanBegin : Config → Option Advance → Type 0
CanBegin (Running globals frame callers) last = ⊥
CanBegin (Broken trouble) last = ⊥
CanBegin (Over globals) None = ⊤
CanBegin (Over globals) (Some Moved) = ⊥
CanBegin (Over globals) (Some (Event event)) = ⊥
CanBegin (Over globals) (Some Rest) = ⊤
CanBegin (Over globals) (Some (Fault kind place)) = ⊥
CanBegin (Over globals) (Some Stopped) = ⊤
CanBegin (Over globals) (Some (advance.Stuck rule)) = ⊥

-- a stimulus of the model, whose values are set before it begins
abbrev pub stimulus_of : StimId → Option Stimulus
stimulus_of Start = None
stimulus_of (Signal k) = Some (shown.Signal k [])
stimulus_of (Timer k) = Some (shown.Expiry k)

abbrev pub is_signal : Option signal.Signal → Bool
is_signal None = false
is_signal (Some s) = s.incoming

abbrev pub is_stimulus_of : Model → StimId → Bool
is_stimulus_of model Start = true
is_stimulus_of model (Signal k) = is_signal (slice_get model.signals k)
is_stimulus_of model (Timer k) = nat_lt k (length model.timers)

abbrev pub function_name : Model → StimId → List ℕ
function_name model Start = start_function
function_name model (Signal k) = signal_function model k
function_name model (Timer k) = timer_function model k

-- the run of a stimulus begins
abbrev pub begins : StimId → Run → Run
begins stimulus run =
    record run { config = begun run.model (function_names run.program) (global_names run.program) (stimulus_of stimulus) run.cells }

-- ---- one step

-- what the next statement does
abbrev pub next_step : Run → Ran shown.Event
next_step run = step_of run.program run.model run.config

-- the answer that says it: an event that is shown, how the run has ended, why it is stuck, or nothing
abbrev pub answer_of : Run → Advance
answer_of run = answer_by (end_of run.model (global_names run.program)) (next_step run).events (next_step run).config

-- the run one statement later
abbrev pub advanced : Run → Run
advanced run =
    record run { cells = cells_after run.cells (next_step run).config; config = (next_step run).config; last = Some (answer_of run) }

-- ---- what the globals say

abbrev pub globals_of : Run → Globals
globals_of run = record { names = global_names run.program; cells = run.cells }

-- a negative number says that no leaf is active
abbrev pub leaf_of : Region → ℤ → Option ℕ
leaf_of region (negsuc n) = None
leaf_of region (pos n) = only_if (nat_lt n (length region.leaves)) n

-- the active leaf of a region
abbrev pub active_leaf : Run → ℕ → Option ℕ
active_leaf run k = slice_get (regions run.model) k >>= λ region. number_named (globals_of run) ((region_field run.model region).name) >>= leaf_of region

abbrev pub is_not_zero : Option ℤ → Bool
is_not_zero None = false
is_not_zero (Some z) = not (is_same z (pos 0))

-- whether a timer is active
abbrev pub is_running : Run → ℕ → Bool
is_running run k = is_not_zero (slice_get run.model.timers k >>= λ timer. number_named (globals_of run) ((timer_field run.model timer).name))

-- the duration that a timer is set to, and 0 where its global holds none
abbrev pub duration_of_timer : Run → ℕ → ℤ
duration_of_timer run k = unwrap_or (duration_in (globals_of run) (duration_of run.model k)) (pos 0)

-- the value of an output's parameter, counted from 0, and of a variable, none where its cells hold none
abbrev pub argument_in : Run → ℕ → ℕ → Option Value
argument_in run signal k = slice_get (outputs_of run.model signal) k >>= value_of_field run.model (globals_of run)

abbrev pub variable_in : Run → ℕ → Option Value
variable_in run k = slice_get (variable_fields run.model) k >>= value_of_field run.model (globals_of run)

-- the number at an offset in a global
abbrev pub number_at : Run → ℕ → ℕ → Option ℤ
number_at run global offset = slice_get run.cells global >>= λ c. slice_get (numbers_of c) offset

-- ---- inputs

abbrev pub with_cells : List Cells → Config → Config
with_cells new (Running globals frame callers) = Running new frame callers
with_cells new (Over globals) = Over new
with_cells new (Broken trouble) = Broken trouble

-- the cells after a parameter was set
abbrev pub put_field : Run → Option Field → Value → List Cells
put_field run None v = run.cells
put_field run (Some field) v = put_named (global_names run.program) field.name (cells_of_shape run.model field.shape v) run.cells

-- a parameter of a signal, counted from 0, holds the value
abbrev pub with_input : ℕ → ℕ → Value → Run → Run
with_input signal k v run =
    let new = put_field run (slice_get (inputs_of run.model signal) k) v in
    record run { cells = new; config = with_cells new run.config }
