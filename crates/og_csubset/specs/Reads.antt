-- What the globals of the interface say: the values of an event's parameters, how a run has ended, and where the inputs of a
-- stimulus go. The globals go by their names, whether they are those of a program of the C subset or the slots of flat
-- code. Where a global that is looked at holds no value of its type or range, nothing can be read.
use Rattle.std.specs.Prelude.{ℕ, zero, suc, ◌^◌, ℤ, pos, negsuc, List, [], ◌∷◌, ◌++◌, Bool, if◌then◌else◌, nat_lt, Option, Some, None, slice_get, unwrap_or}
use Rattle.std.specs.Str.{bytes_eq}
use Rattle.og_base.specs.declared.Place.{Place}
use Rattle.og_names.specs.declared.NameId.{NameId}
use Rattle.og_types.specs.declared.Value.{Value}
use Rattle.og_types.specs.declared.Value.TheVariants.{Int}
use Rattle.og_model.specs.declared.Model.{Model}
use Rattle.og_model.specs.declared.EventId.{EventId}
use Rattle.og_model.specs.declared.EventId.TheVariants as event
use Rattle.og_model.specs.declared.FaultKind.{FaultKind}
use Rattle.og_model.specs.declared.FaultKind.TheVariants as fault
use Rattle.og_model.specs.declared.StuckRule.TheVariants as stuck
use Rattle.og_model.specs.declared.Leaf.{Leaf}
use Rattle.og_model.specs.declared.Region.{Region}
use Rattle.og_model.specs.Regions.{regions}
use Rattle.og_model.specs.Shown.{Event, Output, Set, Reset, End, Rest, Fault, Stopped, Stuck}
use Rattle.og_ir.specs.Cells.{◌>>=◌, Cells, Cell, number_in, global, change_global}
use Rattle.og_ir.specs.Reading.{only_if, below, truth_in, value_in, cells_of}
use Rattle.og_csubset.specs.Kinds.{place_in}
use Rattle.og_csubset.specs.Interface as interface
use Rattle.og_csubset.specs.Interface.{Shape, Typed, Field}

-- Names, and the cells of each.
pub record Globals : Type 0 where
  pub names : List (List ℕ)
  pub cells : List Cells

abbrev pub cells_named : Globals → List ℕ → Option Cells
cells_named globals name = place_in name globals.names >>= λ k. global k globals.cells

abbrev pub number_named : Globals → List ℕ → Option ℤ
number_named globals name = cells_named globals name >>= number_in

-- the value that cells of a shape hold
abbrev pub value_of_shape : Model → Shape → Cells → Option Value
value_of_shape model interface.Number cells = number_in cells >>= λ z. Some (Int z)
value_of_shape model (Typed t) cells = value_in model.types t cells

-- the value that a field holds
abbrev pub value_of_field : Model → Globals → Field → Option Value
value_of_field model globals field = cells_named globals field.name >>= value_of_shape model field.shape

-- the values, or none where one of them is missing
abbrev pub all_of : {A B : Type 0} → (A → Option B) → List A → Option (List B)
all_of f [] = Some []
all_of f (x ∷ xs) = do
  y ← f x
  ys ← all_of f xs
  Some (y ∷ ys)

abbrev pub values_of : Model → Globals → List Field → Option (List Value)
values_of model globals fields = all_of (value_of_field model globals) fields

-- a duration of up to 2^31 - 1
abbrev pub duration_in : Globals → Field → Option ℤ
duration_in globals field = do
  z ← number_named globals field.name
  n ← below (2 ^ 31) z
  Some (pos n)

-- the event with its values
abbrev pub event_shown : Model → Globals → EventId → Option Event
event_shown model globals (event.Output k) =
    values_of model globals (interface.outputs_of model k) >>= λ vs. Some (Output k vs)
event_shown model globals (event.Set k) =
    duration_in globals (interface.duration_of model k) >>= λ d. Some (Set k d)
event_shown model globals (event.Reset k) = Some (Reset k)

-- the event of a name
abbrev pub event_named : Model → List ℕ → List EventId → Option EventId
event_named model name [] = None
event_named model name (id ∷ ids) =
    if bytes_eq name (interface.event_name model id) then Some id else event_named model name ids

-- what a call of an event shows
unfoldable pub event_of : Model → List (List ℕ) → List ℕ → List Cells → Option Event
event_of model names name cells =
    event_named model name (interface.events_of model) >>= event_shown model (record { names = names; cells = cells })

-- the values of the variables
abbrev pub variables_in : Model → Globals → Option (List Value)
variables_in model globals = values_of model globals (interface.variable_fields model)

-- which timers are active
abbrev pub timers_in : Model → Globals → Option (List Bool)
timers_in model globals =
    all_of (λ field. number_named globals field.name >>= truth_in) (interface.timer_fields model)

-- the region's path, then the path of its active leaf in it, if that is a basic state
abbrev pub path_of : Region → Leaf → List (List NameId)
path_of region leaf = if leaf.basic then (region.path ++ leaf.path) ∷ [] else []

-- a negative number says that no leaf is active
abbrev pub active_path : Region → ℤ → Option (List (List NameId))
active_path region (negsuc n) = Some []
active_path region (pos n) = slice_get region.leaves n >>= λ leaf. Some (path_of region leaf)

-- the paths of the active basic states, in the order of the regions
abbrev pub paths_in : Model → Globals → List Region → Option (List (List NameId))
paths_in model globals [] = Some []
paths_in model globals (region ∷ more) = do
  z ← number_named globals ((interface.region_field model region).name)
  here ← active_path region z
  others ← paths_in model globals more
  Some (here ++ others)

-- the kinds of faults, numbered from 1
abbrev pub fault_kinds : List FaultKind
fault_kinds = fault.Range ∷ fault.Index ∷ fault.Division ∷ fault.Alternative ∷ fault.Size ∷ []

abbrev pub kind_numbered : ℤ → Option FaultKind
kind_numbered (pos (suc n)) = slice_get fault_kinds n
kind_numbered (pos zero) = None
kind_numbered (negsuc n) = None

-- a line or a column, from 1 to 2^32 - 1
abbrev pub counted_from_1 : ℤ → Option ℕ
counted_from_1 z = below (2 ^ 32) z >>= λ n. only_if (nat_lt 0 n) n

abbrev pub place_of_fault : Globals → Option Place
place_of_fault globals = do
  file ← number_named globals interface.file_name
  line ← number_named globals interface.line_name
  column ← number_named globals interface.column_name
  f ← below 64 file
  l ← counted_from_1 line
  c ← counted_from_1 column
  Some (record { file = f; line = l; column = c })

-- a fault of this number, with its place
abbrev pub fault_end : Model → Globals → ℤ → Option End
fault_end model globals number = do
  kind ← kind_numbered number
  place ← place_of_fault globals
  variables ← variables_in model globals
  timers ← timers_in model globals
  Some (Fault kind place variables timers)

abbrev pub stopped_end : Model → Globals → Option End
stopped_end model globals = variables_in model globals >>= λ variables. Some (Stopped variables)

abbrev pub rest_end : Model → Globals → Option End
rest_end model globals = do
  paths ← paths_in model globals (regions model)
  variables ← variables_in model globals
  timers ← timers_in model globals
  Some (Rest paths variables timers)

-- STOP, if its number is not 0, and rest otherwise
abbrev pub end_without_fault : Model → Globals → ℤ → Option End
end_without_fault model globals (pos zero) = rest_end model globals
end_without_fault model globals (pos (suc n)) = stopped_end model globals
end_without_fault model globals (negsuc n) = stopped_end model globals

-- a fault, if its kind is not 0
abbrev pub end_by_kind : Model → Globals → ℤ → Option End
end_by_kind model globals (pos zero) =
    number_named globals interface.stopped_name >>= end_without_fault model globals
end_by_kind model globals (pos (suc n)) = fault_end model globals (pos (suc n))
end_by_kind model globals (negsuc n) = fault_end model globals (negsuc n)

-- how a run has ended whose last function has returned
unfoldable pub end_of : Model → List (List ℕ) → List Cells → End
end_of model names cells =
    let globals : Globals = record { names = names; cells = cells } in
    unwrap_or (number_named globals interface.kind_name >>= end_by_kind model globals) (Stuck stuck.Value)

-- puts cells into a global, where it is there
abbrev pub put_numbered : Option ℕ → Cells → List Cells → List Cells
put_numbered None new cells = cells
put_numbered (Some k) new cells = change_global k (λ _. new) cells

abbrev pub put_named : List (List ℕ) → List ℕ → Cells → List Cells → List Cells
put_named names name new cells = put_numbered (place_in name names) new cells

-- the cells of a shape that hold a value
abbrev pub cells_of_shape : Model → Shape → Value → Cells
cells_of_shape model interface.Number v = Cell (pos 0)
cells_of_shape model (Typed t) v = cells_of model.types t v

-- the globals of a signal's parameters hold the values
abbrev pub inputs_set : Model → List (List ℕ) → List Field → List Value → List Cells → List Cells
inputs_set model names [] vs cells = cells
inputs_set model names (field ∷ fields) [] cells = cells
inputs_set model names (field ∷ fields) (v ∷ vs) cells =
    inputs_set model names fields vs (put_named names field.name (cells_of_shape model field.shape v) cells)
