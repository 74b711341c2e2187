-- The flat code of a model, as a function of the model; its slots are those of Slots. `transition` carries out the chosen body: a
-- table leads to its code, which shows an event for each OUTPUT and ends by going to what enters the next state. `start` and the
-- function of each incoming signal choose a body and call `transition`. What no model of basic states has goes to the end.
use Rattle.std.specs.Prelude.{ℕ, ◌+◌, ◌*◌, ℤ, pos, negsuc, Bool, false, cond, List, [], ◌∷◌, ◌++◌, map, length, slice_get, slice_set, unwrap_or, nat_eq, codes, Option, Some, None}
use Rattle.og_names.specs.declared.Word.{Word}
use Rattle.og_model.specs.declared.Model.{Model}
use Rattle.og_model.specs.declared.Signal.{Signal}
use Rattle.og_model.specs.declared.Scope.{out-Scope}
use Rattle.og_model.specs.declared.StateDef.{StateDef}
use Rattle.og_model.specs.declared.Start.{Start}
use Rattle.og_model.specs.declared.Handler.{Handler}
use Rattle.og_model.specs.declared.Trigger.{Trigger}
use Rattle.og_model.specs.declared.Trigger.TheVariants.{Input}
use Rattle.og_model.specs.declared.Body.{Body}
use Rattle.og_model.specs.declared.Branch.{Branch}
use Rattle.og_model.specs.declared.Block.{Block, out-Block}
use Rattle.og_model.specs.declared.Step.{Step}
use Rattle.og_model.specs.declared.Action.{Action, Action-F, out-Action}
use Rattle.og_model.specs.declared.Action.TheOpen.{Output}
use Rattle.og_model.specs.declared.Ending.{Ending}
use Rattle.og_model.specs.declared.EndKind.{EndKind}
use Rattle.og_model.specs.declared.EndKind.TheVariants.{Next}
use Rattle.og_ir.specs.declared.Ir.{Ir}
use Rattle.og_ir.specs.declared.FlatFn.{FlatFn}
use Rattle.og_ir.specs.declared.Instr.{Instr}
use Rattle.og_ir.specs.declared.Instr.TheVariants as instr
use Rattle.og_ir.specs.declared.Slot.{Slot}
use Rattle.og_ir.specs.declared.Flat.{Flat, roll-Flat}
use Rattle.og_ir.specs.declared.Flat.TheOpen as flat
use Rattle.og_ir.specs.declared.FlatRel.TheVariants as rel
use Rattle.og_ir.specs.declared.Test.{Test}
use Rattle.og_ir.specs.declared.Case.{Case}
use Rattle.og_model.specs.RegionTypes.{Region}
use Rattle.og_model.specs.Regions.{regions}
use Rattle.og_csubset.specs.Interface.{name_of, signal_name}
use Rattle.og_flatten.specs.declared.code.Control.{Control}
use Rattle.og_flatten.specs.Slots.{slots_for, control_behind}

-- ---- parts of a model

abbrev pub bodies_of : Model → List Body
bodies_of model = (out-Scope model.root).bodies

abbrev pub states_of : Model → List StateDef
states_of model = (out-Scope model.root).states

abbrev pub starts_of : Model → List Start
starts_of model = (out-Scope model.root).starts

abbrev pub steps_of : Body → List Step
steps_of body = (out-Block body.block).steps

abbrev pub end_of : Body → Option Ending
end_of body = (out-Block body.block).end

abbrev pub is_input : ℕ → Trigger → Bool
is_input k (Input signal into) = nat_eq k signal
is_input k _ = false

-- the first handler of the signal
abbrev pub handler_in : ℕ → List Handler → Option Handler
handler_in k [] = None
handler_in k (h ∷ handlers) = cond (is_input k h.trigger) (Some h) (handler_in k handlers)

-- the body of the first start
abbrev pub start_body : List Start → ℕ
start_body [] = 0
start_body (s ∷ starts) = s.body

-- ---- instructions

abbrev pub word : List ℕ → Word
word bytes = record { bytes = bytes }

abbrev pub slot : ℕ → Slot
slot base = record { base = base; path = [] }

-- the number of the active state of the process, the first of the regions
abbrev pub region : ℕ
region = 0

abbrev pub number : ℤ → Flat
number n = roll-Flat (flat.Number n)

abbrev pub read : ℕ → Flat
read base = roll-Flat (flat.Read (slot base))

abbrev pub sets : ℕ → ℤ → Instr
sets base n = instr.Set (slot base) (number n)

abbrev pub is_stopped : Control → Test
is_stopped control = record { op = rel.Ne; left = read control.stopped; right = number (pos 0) }

-- a number of this list goes to this place
abbrev pub case : ℕ → ℕ → Case
case n place = record { value = pos n; to = place }

-- ---- the places of `transition`

-- an instruction for each step, and one for the end
abbrev pub body_length : Body → ℕ
body_length body = length (steps_of body) + 1

abbrev pub length_of_bodies : List Body → ℕ
length_of_bodies [] = 0
length_of_bodies (b ∷ bodies) = body_length b + length_of_bodies bodies

-- the code that enters the first state stands behind the table and the bodies
abbrev pub first_entering : Model → ℕ
first_entering model = 1 + length_of_bodies (bodies_of model)

-- two instructions enter a state
abbrev pub entering_place : Model → ℕ → ℕ
entering_place model k = first_entering model + 2 * k

abbrev pub end_place : Model → ℕ
end_place model = entering_place model (length (states_of model))

-- ---- the code of `transition`

-- the bodies from the n-th on, of which the first stands at the place
abbrev pub body_cases : ℕ → ℕ → List Body → List Case
body_cases n place [] = []
body_cases n place (b ∷ bodies) = case n place ∷ body_cases (n + 1) (place + body_length b) bodies

-- in code that ends at a place, an output shows its event
abbrev pub action_at : ℕ → Action-F Action Block Branch Step → Instr
action_at end (Output signal values) = instr.Emit signal
action_at end _ = instr.Goto end

abbrev pub step_at : ℕ → Step → Instr
step_at end step = action_at end (out-Action step.action)

-- NEXTSTATE leads to what enters the state
abbrev pub kind_at : ℕ → ℕ → EndKind → ℕ
kind_at entering end (Next state entry) = entering + 2 * state
kind_at entering end _ = end

abbrev pub ending_at : ℕ → ℕ → Option Ending → ℕ
ending_at entering end (Some ending) = kind_at entering end ending.kind
ending_at entering end None = end

abbrev pub body_at : ℕ → ℕ → Body → List Instr
body_at entering end body = map (step_at end) (steps_of body) ++ instr.Goto (ending_at entering end (end_of body)) ∷ []

abbrev pub bodies_at : ℕ → ℕ → List Body → List Instr
bodies_at entering end [] = []
bodies_at entering end (b ∷ bodies) = body_at entering end b ++ bodies_at entering end bodies

-- the same at the places of the model
abbrev pub step_code : Model → Step → Instr
step_code model step = step_at (end_place model) step

abbrev pub place_after : Model → Option Ending → ℕ
place_after model ending = ending_at (first_entering model) (end_place model) ending

abbrev pub bodies_code : Model → List Body → List Instr
bodies_code model bodies = bodies_at (first_entering model) (end_place model) bodies

-- what enters the states from the k-th on
abbrev pub entering_code : ℕ → List StateDef → List Instr
entering_code k [] = []
entering_code k (d ∷ states) = sets region (pos k) ∷ instr.Back ∷ entering_code (k + 1) states

abbrev pub transition_code : Control → Model → List Instr
transition_code control model =
    instr.Table (read control.chosen) (body_cases 0 1 (bodies_of model)) (end_place model)
    ∷ (bodies_code model (bodies_of model) ++ (entering_code 0 (states_of model) ++ instr.Back ∷ []))

-- ---- the code of `start` and of the signals

-- chooses the body, calls `transition` and returns
abbrev pub choice_code : Control → ℕ → List Instr
choice_code control body = sets control.chosen (pos body) ∷ instr.Call 0 ∷ instr.Back ∷ []

-- no state is active before the start
abbrev pub start_code : Control → Model → List Instr
start_code control model = sets region (negsuc 0) ∷ choice_code control (start_body (starts_of model))

abbrev pub handled_code : Control → Option Handler → List Instr
handled_code control None = []
handled_code control (Some h) = choice_code control h.body

-- what the states do with the signal, one after the other
abbrev pub choices_code : Control → ℕ → List StateDef → List Instr
choices_code control signal [] = []
choices_code control signal (d ∷ states) =
    handled_code control (handler_in signal d.handlers) ++ choices_code control signal states

-- three instructions choose a body
abbrev pub handled_length : Option Handler → ℕ
handled_length None = 0
handled_length (Some h) = 3

abbrev pub handled_case : ℕ → ℕ → Option Handler → List Case
handled_case k place None = []
handled_case k place (Some h) = case k place ∷ []

-- the states from the k-th on, whose code begins at the place
abbrev pub choice_cases : ℕ → ℕ → ℕ → List StateDef → List Case
choice_cases signal k place [] = []
choice_cases signal k place (d ∷ states) =
    handled_case k place (handler_in signal d.handlers)
    ++ choice_cases signal (k + 1) (place + handled_length (handler_in signal d.handlers)) states

-- the place behind the choices
abbrev pub signal_end : Control → Model → ℕ → ℕ
signal_end control model signal = 2 + length (choices_code control signal (states_of model))

-- a process that has stopped, or whose active state has no handler of the signal, does nothing
abbrev pub signal_code : Control → Model → ℕ → List Instr
signal_code control model signal =
    instr.Branch (is_stopped control) (signal_end control model signal)
    ∷ instr.Table (read region) (choice_cases signal 0 2 (states_of model)) (signal_end control model signal)
    ∷ (choices_code control signal (states_of model) ++ instr.Back ∷ [])

-- ---- labels, which tell a reader what the code is for

abbrev pub no_label : Word
no_label = word []

-- `__` stands in no declared name
abbrev pub joined_label : List ℕ → List ℕ → Word
joined_label first second = word ((first ++ codes "__") ++ second)

abbrev pub trigger_name : Model → Trigger → List ℕ
trigger_name model (Input signal into) = signal_name model signal
trigger_name model _ = []

abbrev pub handler_label : Model → StateDef → Handler → Word
handler_label model d h = joined_label (name_of model d.name) (trigger_name model h.trigger)

-- the labels of bodies, where those of these handlers of a state are written over them
abbrev pub with_handlers : Model → StateDef → List Handler → List Word → List Word
with_handlers model d [] labels = labels
with_handlers model d (h ∷ handlers) labels =
    with_handlers model d handlers (slice_set labels h.body (handler_label model d h))

abbrev pub with_states : Model → List StateDef → List Word → List Word
with_states model [] labels = labels
with_states model (d ∷ states) labels = with_states model states (with_handlers model d d.handlers labels)

abbrev pub start_words : List Body → List Word
start_words bodies = map (λ (b : Body). word (codes "start")) bodies

-- for each body what it is for: the start, or a state and a signal
abbrev pub body_labels : Model → List Word
body_labels model = with_states model (states_of model) (start_words (bodies_of model))

-- the label stands at the first instruction of the body
abbrev pub labels_of_body : Word → Body → List Word
labels_of_body label body = label ∷ map (λ (s : Step). no_label) (steps_of body)

abbrev pub word_at : List Word → ℕ → Word
word_at words n = unwrap_or (slice_get words n) (word (codes "body"))

-- the bodies from the n-th on
abbrev pub labels_of_bodies : List Word → ℕ → List Body → List Word
labels_of_bodies words n [] = []
labels_of_bodies words n (b ∷ bodies) = labels_of_body (word_at words n) b ++ labels_of_bodies words (n + 1) bodies

abbrev pub entering_labels : Model → List StateDef → List Word
entering_labels model [] = []
entering_labels model (d ∷ states) =
    joined_label (codes "enter") (name_of model d.name) ∷ no_label ∷ entering_labels model states

abbrev pub end_label : List Word
end_label = word (codes "end") ∷ []

abbrev pub transition_labels : Model → List Word
transition_labels model =
    no_label
    ∷ (labels_of_bodies (body_labels model) 0 (bodies_of model) ++ (entering_labels model (states_of model) ++ end_label))

abbrev pub start_labels : List Word
start_labels = no_label ∷ no_label ∷ no_label ∷ no_label ∷ []

abbrev pub handled_labels : Model → StateDef → Option Handler → List Word
handled_labels model d None = []
handled_labels model d (Some h) = handler_label model d h ∷ no_label ∷ no_label ∷ []

abbrev pub choices_labels : Model → ℕ → List StateDef → List Word
choices_labels model signal [] = []
choices_labels model signal (d ∷ states) =
    handled_labels model d (handler_in signal d.handlers) ++ choices_labels model signal states

abbrev pub signal_labels : Model → ℕ → List Word
signal_labels model signal =
    no_label ∷ no_label ∷ (choices_labels model signal (states_of model) ++ end_label)

-- ---- the whole

-- an event for each signal, by the interface's name of its output
abbrev pub event_word : Model → Signal → Word
event_word model signal = word (codes "o_" ++ name_of model signal.name)

abbrev pub transition_function : Control → Model → FlatFn
transition_function control model =
    record { name = word (codes "transition"); code = transition_code control model; labels = transition_labels model }

abbrev pub start_function : Control → Model → FlatFn
start_function control model =
    record { name = word (codes "start"); code = start_code control model; labels = start_labels }

abbrev pub signal_function : Control → Model → ℕ → Signal → FlatFn
signal_function control model k signal = record {
  name = word (codes "on_" ++ name_of model signal.name);
  code = signal_code control model k;
  labels = signal_labels model k;
}

-- an incoming signal has a function
abbrev pub function_if_incoming : Control → Model → ℕ → Signal → List FlatFn
function_if_incoming control model k signal = cond signal.incoming (signal_function control model k signal ∷ []) []

-- the functions of the signals from the k-th on
abbrev pub signal_functions : Control → Model → ℕ → List Signal → List FlatFn
signal_functions control model k [] = []
signal_functions control model k (s ∷ signals) =
    function_if_incoming control model k s ++ signal_functions control model (k + 1) signals

abbrev pub functions_of : Control → Model → List FlatFn
functions_of control model =
    transition_function control model ∷ start_function control model ∷ signal_functions control model 0 model.signals

-- the code of a model with these slots and these regions
abbrev pub code_for : Model → List Region → Ir
code_for model rs = record {
  slots = slots_for model rs;
  events = map (event_word model) model.signals;
  functions = functions_of (control_behind (length rs)) model;
}

abbrev pub code_of : Model → Ir
code_of model = code_for model (regions model)
