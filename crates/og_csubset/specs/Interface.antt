-- The names under which a program of a model is reached, with their shapes. It has a function for the start, for each
-- incoming signal and for each timer, and globals for the parameters of incoming signals, for variables, for timers, for the
-- regions of active states, for STOP and for a fault. It may call an event for the output of each signal and for each timer
-- that is set or reset; then it also has globals for the values of the parameters, or for the duration.
use Rattle.std.specs.Prelude.{ℕ, ◌+◌, List, [], ◌∷◌, ◌++◌, if◌then◌else◌, Option, Some, None, map, flat_map, slice_get, unwrap_or, codes, length}
use Rattle.std.specs.List.{range_with_len}
use Rattle.std.specs.Fmt.{decimal}
use Rattle.og_names.specs.declared.NameId.{NameId}
use Rattle.og_types.specs.declared.TypeId.{TypeId}
use Rattle.og_model.specs.declared.Model.{Model}
use Rattle.og_model.specs.declared.Signal.{Signal}
use Rattle.og_model.specs.declared.Variable.{Variable}
use Rattle.og_model.specs.declared.EventId.{EventId}
use Rattle.og_model.specs.declared.EventId.TheVariants as event
use Rattle.og_model.specs.declared.Region.{Region}
use Rattle.og_model.specs.Regions.{regions}

-- One number, or the cells of a value of a type.
pub data Shape : Type 0 where
  Number : Shape
  Typed : (type : TypeId) → Shape

-- A global with its shape.
pub record Field : Type 0 where
  pub name : List ℕ
  pub shape : Shape

-- the folded name of a number
abbrev pub name_of : Model → NameId → List ℕ
name_of model id = unwrap_or (slice_get model.names id.0) []

abbrev pub name_if : Model → Option NameId → List ℕ
name_if model None = []
name_if model (Some id) = name_of model id

abbrev pub numbers_below : ℕ → List ℕ
numbers_below n = range_with_len 0 n

-- a signal's name and the types of its parameters, none where there is no such signal
abbrev pub signal_id : Option Signal → Option NameId
signal_id None = None
signal_id (Some signal) = Some signal.name

abbrev pub signal_name : Model → ℕ → List ℕ
signal_name model k = name_if model (signal_id (slice_get model.signals k))

abbrev pub sorts_of : Option Signal → List TypeId
sorts_of None = []
sorts_of (Some signal) = signal.sorts

abbrev pub signal_sorts : Model → ℕ → List TypeId
signal_sorts model k = sorts_of (slice_get model.signals k)

abbrev pub timer_name : Model → ℕ → List ℕ
timer_name model k = name_if model (slice_get model.timers k)

-- i_S__1, i_S__2 and so on, for the types from the k-th on
abbrev pub parameters_from : ℕ → List ℕ → List TypeId → List Field
parameters_from k prefix [] = []
parameters_from k prefix (t ∷ types) =
    record { name = prefix ++ codes "__" ++ decimal k; shape = Typed t } ∷ parameters_from (k + 1) prefix types

-- the globals of an incoming signal's parameters
abbrev pub inputs_of : Model → ℕ → List Field
inputs_of model k = parameters_from 1 (codes "i_" ++ signal_name model k) (signal_sorts model k)

-- the globals of an output's parameters
abbrev pub outputs_of : Model → ℕ → List Field
outputs_of model k = parameters_from 1 (codes "o_" ++ signal_name model k) (signal_sorts model k)

abbrev pub duration_of : Model → ℕ → Field
duration_of model k = record { name = codes "d_" ++ timer_name model k; shape = Number }

-- the functions of stimuli
abbrev pub start_function : List ℕ
start_function = codes "start"

abbrev pub signal_function : Model → ℕ → List ℕ
signal_function model k = codes "on_" ++ signal_name model k

abbrev pub timer_function : Model → ℕ → List ℕ
timer_function model k = codes "at_" ++ timer_name model k

-- the numbers of incoming signals, from the k-th on
abbrev pub incoming_from : ℕ → List Signal → List ℕ
incoming_from k [] = []
incoming_from k (signal ∷ signals) = (if signal.incoming then k ∷ [] else []) ++ incoming_from (k + 1) signals

abbrev pub incoming : Model → List ℕ
incoming model = incoming_from 0 model.signals

abbrev pub functions_of : Model → List (List ℕ)
functions_of model =
    start_function ∷ (map (signal_function model) (incoming model)
    ++ map (timer_function model) (numbers_below (length model.timers)))

-- an output for each signal, then for each timer its setting and its resetting
abbrev pub events_of : Model → List EventId
events_of model =
    map event.Output (numbers_below (length model.signals))
    ++ flat_map (λ k. event.Set k ∷ event.Reset k ∷ []) (numbers_below (length model.timers))

abbrev pub event_name : Model → EventId → List ℕ
event_name model (event.Output k) = codes "o_" ++ signal_name model k
event_name model (event.Set k) = codes "s_" ++ timer_name model k
event_name model (event.Reset k) = codes "x_" ++ timer_name model k

-- the globals that an event's values are read from
abbrev pub event_globals : Model → EventId → List Field
event_globals model (event.Output k) = outputs_of model k
event_globals model (event.Set k) = duration_of model k ∷ []
event_globals model (event.Reset k) = []

-- v_X
abbrev pub variable_field : Model → Variable → Field
variable_field model variable =
    record { name = codes "v_" ++ name_of model variable.name; shape = Typed variable.sort }

abbrev pub variable_fields : Model → List Field
variable_fields model = map (variable_field model) model.variables

-- t_T
abbrev pub timer_field : Model → NameId → Field
timer_field model id = record { name = codes "t_" ++ name_of model id; shape = Number }

abbrev pub timer_fields : Model → List Field
timer_fields model = map (timer_field model) model.timers

-- r, or r__a__b for the path a, b
abbrev pub region_field : Model → Region → Field
region_field model region =
    record { name = codes "r" ++ flat_map (λ id. codes "__" ++ name_of model id) region.path; shape = Number }

abbrev pub number_field : List ℕ → Field
number_field name = record { name = name; shape = Number }

abbrev pub stopped_name : List ℕ
stopped_name = codes "stopped"

abbrev pub kind_name : List ℕ
kind_name = codes "f_kind"

abbrev pub file_name : List ℕ
file_name = codes "f_file"

abbrev pub line_name : List ℕ
line_name = codes "f_line"

abbrev pub column_name : List ℕ
column_name = codes "f_column"

-- the regions, then whether it has stopped and where it has failed
abbrev pub control_fields : Model → List Field
control_fields model =
    map (region_field model) (regions model)
    ++ map number_field (stopped_name ∷ kind_name ∷ file_name ∷ line_name ∷ column_name ∷ [])

-- the globals that each program of the model has
abbrev pub fields_of : Model → List Field
fields_of model =
    control_fields model ++ variable_fields model ++ timer_fields model ++ flat_map (inputs_of model) (incoming model)
