-- The model of a file whose tree is given (Z.101 sections 11.1, 11.2, 11.3, 11.12 and 11.13: start, states, inputs, transitions
-- and outputs). A state is all that its headers say, however many there are; a transition belongs to one INPUT, or to the
-- START; a name stands for its number in the list where it is declared. Names are folded, and each stands once in the list of
-- all names. Until routes are read each signal goes both ways.
use Rattle.std.specs.Prelude.{ℕ, ◌+◌, Bool, true, List, [], ◌∷◌, map, Some, None, if◌then◌else◌}
use Rattle.std.specs.List.{flat_map, filter}
use Rattle.std.specs.Str.{bytes_eq}
use Rattle.og_names.specs.declared.NameId.{NameId}
use Rattle.og_names.specs.Folding.{with_name}
use Rattle.og_model.specs.declared.Model.{Model}
use Rattle.og_model.specs.declared.Signal.{Signal}
use Rattle.og_model.specs.declared.Scope.{Scope, roll-Scope}
use Rattle.og_model.specs.declared.StateDef.{StateDef}
use Rattle.og_model.specs.declared.StateKind as kinds
use Rattle.og_model.specs.declared.Handler.{Handler}
use Rattle.og_model.specs.declared.Trigger.TheVariants.{Input}
use Rattle.og_model.specs.declared.Body.{Body}
use Rattle.og_model.specs.declared.Block.{Block, roll-Block}
use Rattle.og_model.specs.declared.Step.{Step}
use Rattle.og_model.specs.declared.Action as actions
use Rattle.og_model.specs.declared.Ending.{Ending}
use Rattle.og_model.specs.declared.EndKind.TheVariants.{Next}
use Rattle.og_front.specs.declared.rules.Tables.{Tables}
use Rattle.og_front.specs.declared.syntax.Ident.{Ident}
use Rattle.og_front.specs.declared.syntax.SystemText.{SystemText}
use Rattle.og_front.specs.declared.syntax.StartText.{StartText}
use Rattle.og_front.specs.declared.syntax.StateText.{StateText}
use Rattle.og_front.specs.declared.syntax.InputText.{InputText}
use Rattle.og_front.specs.declared.syntax.NextText.{NextText}
use Rattle.og_front.specs.Names.{all_names}
use Rattle.og_front.specs.Rules.{key, table_of, signal_names, header_names, tables_of, is_in, number_in}

-- the folded names of the file, each once, in the order of the tokens
abbrev pub name_table : SystemText → List (List ℕ)
name_table system = table_of (all_names system)

abbrev pub id_in : List (List ℕ) → Ident → NameId
id_in names name = record { 0 = number_in names name }

-- ---- signals

abbrev pub signal_of : List (List ℕ) → Ident → Signal
signal_of names name = record { name = id_in names name; sorts = []; incoming = true; outgoing = true }

abbrev pub signals_of : List (List ℕ) → SystemText → List Signal
signals_of names system = map (signal_of names) (signal_names system)

-- ---- transitions

-- NEXTSTATE, by the number of the state
abbrev pub ending_of : Tables → NextText → Ending
ending_of tables next = record { label = None; place = next.place; kind = Next (number_in tables.states next.state) None }

-- OUTPUT, by the number of the signal, at its name
abbrev pub step_of : Tables → Ident → Step
step_of tables output = record { label = None; place = output.place; action = actions.Output (number_in tables.signals output) [] }

abbrev pub block_of : Tables → List Ident → NextText → Block
block_of tables outputs next = roll-Block (record { steps = map (step_of tables) outputs; end = Some (ending_of tables next) })

-- the transition of the START, which sends nothing
abbrev pub start_body : Tables → StartText → Body
start_body tables start = record { place = start.place; label = None; block = block_of tables [] start.next }

-- the transition of an INPUT
abbrev pub input_body : Tables → InputText → Body
input_body tables input = record { place = input.place; label = None; block = block_of tables input.outputs input.next }

-- an INPUT, with the name in the header that it stands under
pub record Transition : Type 0 where
  pub state : Ident
  pub input : InputText

abbrev pub transitions_in : StateText → List Transition
transitions_in state = map (λ input. record { state = state.name; input = input }) state.inputs

-- the inputs of the file, in the order of the text
abbrev pub transitions : SystemText → List Transition
transitions system = flat_map transitions_in system.states

-- one body for the START, and then one for each INPUT
abbrev pub bodies_of : Tables → SystemText → List Body
bodies_of tables system = start_body tables system.start ∷ map (λ (t : Transition). input_body tables t.input) (transitions system)

-- ---- states

-- each with its number, counted from this one
abbrev pub numbered_from : ℕ → List Transition → List (ℕ × Transition)
numbered_from n [] = []
numbered_from n (t ∷ ts) = (n, t) ∷ numbered_from (n + 1) ts

-- the handler of an INPUT, at the name of the signal, with the number of its body
abbrev pub handler_at : Tables → ℕ × Transition → Handler
handler_at tables t = record { place = t.1.input.signal.place; trigger = Input (number_in tables.signals t.1.input.signal) []; body = t.0 }

abbrev pub is_of : Ident → ℕ × Transition → Bool
is_of name t = bytes_eq (key t.1.state) (key name)

-- the handlers of a state: of each INPUT under a header of its name
abbrev pub handlers_at : Tables → SystemText → Ident → List Handler
handlers_at tables system name = map (handler_at tables) (filter (is_of name) (numbered_from 1 (transitions system)))

-- a state, at its name in its first header
abbrev pub state_of : Tables → SystemText → Ident → StateDef
state_of tables system name =
    record { name = id_in (name_table system) name; place = name.place; kind = kinds.Basic; handlers = handlers_at tables system name }

-- the names that differ from those before them, and from those of a table
abbrev pub firsts_from : List (List ℕ) → List Ident → List Ident
firsts_from table [] = []
firsts_from table (name ∷ names) = if is_in table (key name) then firsts_from table names else name ∷ firsts_from (with_name table (key name)) names

-- the name of each state in its first header
abbrev pub first_headers : SystemText → List Ident
first_headers system = firsts_from [] (header_names system)

abbrev pub scope_of : Tables → SystemText → Scope
scope_of tables system = roll-Scope (record {
  states = map (state_of tables system) (first_headers system);
  starts = record { entry = None; body = 0 } ∷ [];
  bodies = bodies_of tables system;
})

-- ---- the model

-- the model by any numbers of signals and states
abbrev pub model_by : Tables → SystemText → Model
model_by tables system = record {
  name = id_in (name_table system) system.process;
  names = name_table system;
  types = [];
  signals = signals_of (name_table system) system;
  timers = [];
  variables = [];
  procs = [];
  root = scope_of tables system;
}

abbrev pub model_of_tree : SystemText → Model
model_of_tree system = model_by (tables_of system) system
