-- How a run is shown, line by line: the start or a stimulus behind `> `; each event; and the end. At rest there is a line for each
-- active state, by the names from the process inward with a dot between them, and for each active timer; a fault has its kind
-- and its place. Values are shown as og_value writes them. The form of traces is this project's own.
use Rattle.std.specs.Prelude.{◌≡◌, ℕ, suc, ℤ, pos, negsuc, Bool, true, false, List, [], ◌∷◌, ◌++◌, Option, Some, None, codes, decimal, map, slice_get, unwrap_or}
use Rattle.std.specs.Option.{option_map}
use Rattle.std.specs.List.{flat_map}
use Rattle.og_base.specs.declared.Place.{Place}
use Rattle.og_names.specs.declared.NameId.{NameId}
use Rattle.og_names.specs.declared.Word.{Word}
use Rattle.og_model.specs.declared.Model.{Model}
use Rattle.og_model.specs.declared.Signal.{Signal}
use Rattle.og_model.specs.declared.StimId.{StimId}
use Rattle.og_model.specs.declared.StimId.TheVariants as id
use Rattle.og_model.specs.declared.FaultKind.{FaultKind}
use Rattle.og_model.specs.declared.FaultKind.TheVariants as kind
use Rattle.og_model.specs.declared.StuckRule.{StuckRule}
use Rattle.og_model.specs.declared.StuckRule.TheVariants as stuck
use Rattle.og_model.specs.declared.Leaf.{Leaf}
use Rattle.og_model.specs.declared.Region.{Region}
use Rattle.og_stim.specs.declared.show.Happening.{Happening}
use Rattle.og_stim.specs.declared.show.Happening.TheVariants as happening
use Rattle.og_stim.specs.declared.show.ActiveLeaf.{ActiveLeaf}
use Rattle.og_stim.specs.declared.show.TraceEnd.{TraceEnd}
use Rattle.og_stim.specs.declared.show.TraceEnd.TheVariants as ending
use Rattle.og_model.specs.declared.Variable.{Variable}
use Rattle.og_types.specs.declared.TypeId.{TypeId}
use Rattle.og_types.specs.declared.Value.{Value}
use Rattle.og_value.specs.Shows.{shown, separated}
use Rattle.og_stim.specs.declared.stimuli.Stimulus.{Stimulus}
use Rattle.og_stim.specs.Stimuli.{signal_sorts, sorts_of}
use Rattle.og_model.specs.Shown.{Event, Output, Set, Reset, End, Rest, Fault, Stopped, Past, Stuck}

abbrev pub Bytes : Type 0
Bytes = List ℕ

-- with LF behind
abbrev pub line : Bytes → Bytes
line bytes = bytes ++ 10 ∷ []

-- ---- names

abbrev pub name_of : Model → NameId → Bytes
name_of M name = unwrap_or (slice_get M.names name.0) []

abbrev pub name_if : Model → Option NameId → Bytes
name_if M None = []
name_if M (Some name) = name_of M name

abbrev pub signal_name : Model → ℕ → Bytes
signal_name M k = name_if M (option_map (λ (s : Signal). s.name) (slice_get M.signals k))

abbrev pub timer_name : Model → ℕ → Bytes
timer_name M k = name_if M (slice_get M.timers k)

-- ---- values

abbrev pub value_texts : Model → List TypeId → List Value → List Bytes
value_texts M [] vs = []
value_texts M (sort ∷ sorts) [] = []
value_texts M (sort ∷ sorts) (v ∷ vs) = shown M.types M.names sort v ∷ value_texts M sorts vs

-- with `, ` between two of them, in brackets; nothing where there are none
abbrev pub in_brackets : List Bytes → Bytes
in_brackets [] = []
in_brackets (text ∷ texts) = codes "(" ++ separated (text ∷ texts) ++ codes ")"

-- the values of parameters of these types
abbrev pub arguments_text : Model → List TypeId → List Value → Bytes
arguments_text M sorts vs = in_brackets (value_texts M sorts vs)

-- ---- stimuli and events

abbrev pub name_of_stimulus : Model → StimId → Bytes
name_of_stimulus M id.Start = codes "start"
name_of_stimulus M (id.Signal k) = signal_name M k
name_of_stimulus M (id.Timer k) = timer_name M k

abbrev pub stimulus_text : Model → Stimulus → Bytes
stimulus_text M x = name_of_stimulus M x.id ++ arguments_text M (sorts_of M x.id) x.values

abbrev pub stimulus_line : Model → Stimulus → Bytes
stimulus_line M x = line (codes "> " ++ stimulus_text M x)

abbrev pub number_text : ℤ → Bytes
number_text (pos n) = decimal n
number_text (negsuc n) = codes "-" ++ decimal (suc n)

abbrev pub event_text : Model → Event → Bytes
event_text M (Output k values) = codes "output " ++ signal_name M k ++ arguments_text M (signal_sorts M k) values
event_text M (Set k duration) = codes "set " ++ timer_name M k ++ codes "(" ++ number_text duration ++ codes ")"
event_text M (Reset k) = codes "reset " ++ timer_name M k

abbrev pub event_line : Model → Event → Bytes
event_line M event = line (event_text M event)

-- ---- ends

-- the names with a dot between two of them
abbrev pub dotted : Model → List NameId → Bytes
dotted M [] = []
dotted M (name ∷ []) = name_of M name
dotted M (name ∷ other ∷ names) = name_of M name ++ codes "." ++ dotted M (other ∷ names)

abbrev pub state_line : Model → List NameId → Bytes
state_line M path = line (codes "state " ++ dotted M path)

abbrev pub var_line : Model → Variable → Value → Bytes
var_line M x v = line (codes "var " ++ name_of M x.name ++ codes " = " ++ shown M.types M.names x.sort v)

-- these variables with their values
abbrev pub var_lines : Model → List Variable → List Value → Bytes
var_lines M [] values = []
var_lines M (x ∷ variables) [] = []
var_lines M (x ∷ variables) (v ∷ values) = var_line M x v ++ var_lines M variables values

abbrev pub timer_line : Model → NameId → Bytes
timer_line M t = line (codes "timer " ++ name_of M t)

abbrev pub timer_if : Model → NameId → Bool → Bytes
timer_if M t true = timer_line M t
timer_if M t false = []

-- the active ones of these timers
abbrev pub timer_lines : Model → List NameId → List Bool → Bytes
timer_lines M [] active = []
timer_lines M (t ∷ timers) [] = []
timer_lines M (t ∷ timers) (runs ∷ active) = timer_if M t runs ++ timer_lines M timers active

abbrev pub kind_text : FaultKind → Bytes
kind_text kind.Range = codes "Range"
kind_text kind.Index = codes "Index"
kind_text kind.Division = codes "Division"
kind_text kind.Alternative = codes "Alternative"
kind_text kind.Size = codes "Size"

abbrev pub stuck_text : StuckRule → Bytes
stuck_text stuck.Overflow = codes "Overflow"
stuck_text stuck.Index = codes "Index"
stuck_text stuck.Divide = codes "Divide"
stuck_text stuck.Value = codes "Value"

-- the file by its word
abbrev pub file_text : List Word → ℕ → Bytes
file_text files k = unwrap_or (option_map (λ (w : Word). w.bytes) (slice_get files k)) []

abbrev pub place_text : List Word → Place → Bytes
place_text files place = file_text files place.file ++ codes ":" ++ decimal place.line ++ codes ":" ++ decimal place.column

abbrev pub fault_line : List Word → FaultKind → Place → Bytes
fault_line files kind place = line (codes "fault " ++ kind_text kind ++ codes " " ++ place_text files place)

abbrev pub stuck_line : StuckRule → Bytes
stuck_line rule = line (codes "stuck " ++ stuck_text rule)

-- the variables, and the active timers
abbrev pub lines_of_process : Model → List Value → List Bool → Bytes
lines_of_process M values timers = var_lines M M.variables values ++ timer_lines M M.timers timers

-- how a run has ended
abbrev pub end_lines : Model → List Word → End → Bytes
end_lines M files (Rest paths values timers) = line (codes "rest") ++ flat_map (state_line M) paths ++ lines_of_process M values timers
end_lines M files (Fault kind place values timers) =
    fault_line files kind place ++ lines_of_process M values timers
end_lines M files (Stopped values) = line (codes "stopped") ++ var_lines M M.variables values
end_lines M files Past = line (codes "past")
end_lines M files (Stuck rule) = stuck_line rule

-- ---- what is shown, as a program tells it

abbrev pub event_of : Happening → Event
event_of (happening.Output k values) = Output k values
event_of (happening.Set k duration) = Set k duration
event_of (happening.Reset k) = Reset k

abbrev pub leaf_path : Option Leaf → List NameId
leaf_path None = []
leaf_path (Some leaf) = leaf.path

abbrev pub path_in : ℕ → Option Region → List NameId
path_in k None = []
path_in k (Some region) = region.path ++ leaf_path (slice_get region.leaves k)

-- the path of a leaf of a region, by their numbers
abbrev pub path_of : List Region → ActiveLeaf → List NameId
path_of regions active = path_in active.leaf (slice_get regions active.region)

abbrev pub leaf_line : Model → List Region → ActiveLeaf → Bytes
leaf_line M regions active = state_line M (path_of regions active)

-- the lines of rest, by the numbers of leaves
abbrev pub rest_lines : Model → List Region → List ActiveLeaf → List Value → List Bool → Bytes
rest_lines M regions leaves values timers =
    line (codes "rest") ++ flat_map (leaf_line M regions) leaves ++ lines_of_process M values timers

abbrev pub end_of : List Region → TraceEnd → End
end_of regions (ending.Rest leaves values timers) = Rest (map (path_of regions) leaves) values timers
end_of regions (ending.Fault kind place values timers) = Fault kind place values timers
end_of regions (ending.Stopped values) = Stopped values
end_of regions ending.Past = Past
end_of regions (ending.Stuck rule) = Stuck rule
