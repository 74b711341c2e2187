-- What a process of basic states says (Z.101 clauses 9 and 11, Z.102 clause 11), taken out of the trees of all files: the signals of
-- all systems and blocks with the ways that they go, the starts of the process that have no name, and a state for each STATE, all in
-- the order of the text. A transition is its steps, and the state to which it leads. This speaks of texts whose forms are all built:
-- what such a text cannot have is left out (labels, values, variables, conditions, decisions, START with a name, and whatever does
-- not end in NEXTSTATE with a name).
use Rattle.std.specs.Prelude.{ℕ, List, [], ◌∷◌, ◌++◌, map, flat_map, Option, Some, None}
use Rattle.og_base.specs.declared.Place.{Place}
use Rattle.og_ast.specs.declared.ground.HyphenedName.{HyphenedName}
use Rattle.og_ast.specs.declared.ground.Name.{Name}
use Rattle.og_ast.specs.declared.state.AggregationPart.{AggregationPart}
use Rattle.og_ast.specs.declared.state.AggregationPart.TheOpen as inner
use Rattle.og_ast.specs.declared.state.AggregationTree.{AggregationTree}
use Rattle.og_ast.specs.declared.state.CompositeTree.{CompositeTree}
use Rattle.og_ast.specs.declared.state.InnerTree.{InnerTree, InnerTree-F, out-InnerTree}
use Rattle.og_ast.specs.declared.state.InputTree.{InputTree}
use Rattle.og_ast.specs.declared.state.InTree.{InTree}
use Rattle.og_ast.specs.declared.state.ListTree.{ListTree}
use Rattle.og_ast.specs.declared.state.ListTree.TheVariants as list
use Rattle.og_ast.specs.declared.state.PartTree.{PartTree}
use Rattle.og_ast.specs.declared.state.PartTree.TheVariants as part
use Rattle.og_ast.specs.declared.state.StartTree.{StartTree}
use Rattle.og_ast.specs.declared.state.StateTree.{StateTree}
use Rattle.og_ast.specs.declared.system.ProcessTree.{ProcessTree}
use Rattle.og_ast.specs.declared.system.Unit.{Unit as UnitTree}
use Rattle.og_ast.specs.declared.transition.ActionTree.{ActionTree, ActionTree-F, out-ActionTree}
use Rattle.og_ast.specs.declared.transition.ActionTree.TheOpen as action
use Rattle.og_ast.specs.declared.transition.BranchTree.{BranchTree}
use Rattle.og_ast.specs.declared.transition.DecisionTree.{DecisionTree}
use Rattle.og_ast.specs.declared.transition.ElseTree.{ElseTree}
use Rattle.og_ast.specs.declared.transition.OutTree.{OutTree}
use Rattle.og_ast.specs.declared.transition.StepTree.{StepTree}
use Rattle.og_ast.specs.declared.transition.TerminatorKind.{TerminatorKind}
use Rattle.og_ast.specs.declared.transition.TerminatorKind.TheVariants as kind
use Rattle.og_ast.specs.declared.transition.TerminatorTree.{TerminatorTree}
use Rattle.og_ast.specs.declared.transition.TransitionTree.{TransitionTree, out-TransitionTree}
use Rattle.og_system.specs.Bodies.{Home}
use Rattle.og_system.specs.Scopes.{names_in_block, names_in_system, processes_at_file_level}
use Rattle.og_system.specs.Ways.{Directed, directed_signals}
use Rattle.og_outline.specs.declared.InputOutline.{InputOutline}
use Rattle.og_outline.specs.declared.NextOutline.{NextOutline}
use Rattle.og_outline.specs.declared.Outline.{Outline}
use Rattle.og_outline.specs.declared.SignalOutline.{SignalOutline}
use Rattle.og_outline.specs.declared.SortOutline.{SortOutline}
use Rattle.og_outline.specs.declared.StartOutline.{StartOutline}
use Rattle.og_outline.specs.declared.StateOutline.{StateOutline}
use Rattle.og_outline.specs.declared.StepOutline.{StepOutline}
use Rattle.og_outline.specs.declared.StepOutline.TheVariants as step

-- ---- signals

-- the bytes of names, each behind a hyphen
abbrev pub hyphened : List Name → List ℕ
hyphened [] = []
hyphened (name ∷ names) = 45 ∷ (name.word.bytes ++ hyphened names)

-- the name of a type, from the names between its hyphens
abbrev pub sort_at : List Name → List SortOutline
sort_at [] = []
sort_at (first ∷ more) = record { place = first.place; word = record { bytes = first.word.bytes ++ hyphened more } } ∷ []

abbrev pub sort_of : HyphenedName → List SortOutline
sort_of name = sort_at name.parts

abbrev pub signal_of : Directed → SignalOutline
signal_of d = record {
  name = d.signal.name;
  sorts = flat_map sort_of d.signal.sorts;
  visible = d.visible;
  incoming = d.incoming;
  outgoing = d.outgoing;
}

abbrev pub signals_of : List UnitTree → ProcessTree → Home → List SignalOutline
signals_of units process home = map signal_of (directed_signals units process home)

-- ---- what is visible where the process stands

-- what its block declares, what its system declares, and the bodies at file level
abbrev pub names_around : List UnitTree → Home → List Name
names_around units home = names_in_block home.block ++ (names_in_system home.system ++ processes_at_file_level units)

-- ---- transitions

-- OUTPUT sends each of its signals
abbrev pub sent : OutTree → StepOutline
sent out = step.Output out.signal

-- TASK with a text does nothing, at its keyword
abbrev pub steps_in_action : Place → ActionTree-F ActionTree BranchTree DecisionTree ElseTree StepTree TransitionTree → List StepOutline
steps_in_action place (action.Informal text) = step.Nothing place ∷ []
steps_in_action place (action.Task assigns) = []
steps_in_action place (action.Output outs) = map sent outs
steps_in_action place (action.Call call) = []
steps_in_action place (action.Decision decision) = []

abbrev pub steps_in_step : StepTree → List StepOutline
steps_in_step tree = steps_in_action tree.place (out-ActionTree tree.action)

abbrev pub steps_of : TransitionTree → List StepOutline
steps_of transition = flat_map steps_in_step (out-TransitionTree transition).steps

-- NEXTSTATE with a name, whose keyword stands at the place
abbrev pub next_by : Place → TerminatorKind → Option NextOutline
next_by place (kind.Dash dash) = None
next_by place (kind.History dash) = None
next_by place (kind.Next state None) = Some (record { place = place; state = state })
next_by place (kind.Next state (Some via)) = None
next_by place (kind.Join label) = None
next_by place (kind.Return result) = None
next_by place kind.Stop = None

abbrev pub next_at : Option TerminatorTree → Option NextOutline
next_at None = None
next_at (Some end) = next_by end.place end.kind

abbrev pub next_of : TransitionTree → Option NextOutline
next_of transition = next_at (out-TransitionTree transition).terminator

-- ---- starts

-- a START with this name, whose transition leads there
abbrev pub start_at : StartTree → Option Name → Option NextOutline → List StartOutline
start_at start None None = []
start_at start None (Some next) = record { place = start.place; steps = steps_of start.transition; next = next } ∷ []
start_at start (Some name) next = []

abbrev pub start_of : StartTree → List StartOutline
start_of start = start_at start start.name (next_of start.transition)

abbrev pub starts_in : InnerTree-F AggregationPart InnerTree AggregationTree CompositeTree → List StartOutline
starts_in (inner.InnerTree::Dcl dcl) = []
starts_in (inner.InnerTree::Timer timer) = []
starts_in (inner.InnerTree::Procedure procedure) = []
starts_in (inner.Start start) = start_of start
starts_in (inner.State state) = []
starts_in (inner.InnerTree::Composite composite) = []
starts_in (inner.Aggregation aggregation) = []
starts_in (inner.Connection connection) = []

abbrev pub starts_in_inner : InnerTree → List StartOutline
starts_in_inner part = starts_in (out-InnerTree part)

abbrev pub starts_of : ProcessTree → List StartOutline
starts_of process = flat_map starts_in_inner process.parts

-- ---- states and their inputs

-- what INPUT of these signals receives at this place, and does then
abbrev pub received : Place → List InTree → List StepOutline → NextOutline → List InputOutline
received place [] steps next = []
received place (tree ∷ []) steps next = record { place = place; signal = tree.signal; steps = steps; next = next } ∷ []
received place (tree ∷ other ∷ more) steps next = []

-- an INPUT, whose transition leads there
abbrev pub input_at : InputTree → Option NextOutline → List InputOutline
input_at input None = []
input_at input (Some next) = received input.place input.inputs (steps_of input.transition) next

abbrev pub input_of : InputTree → List InputOutline
input_of input = input_at input (next_of input.transition)

abbrev pub inputs_in_part : PartTree → List InputOutline
inputs_in_part (part.Input input) = input_of input
inputs_in_part (part.Provided provided) = []
inputs_in_part (part.Connect connect) = []
inputs_in_part (part.Save save) = []

-- STATE with these names and parts
abbrev pub state_at : List Name → List PartTree → List StateOutline
state_at [] parts = []
state_at (name ∷ []) parts = record { name = name; inputs = flat_map inputs_in_part parts } ∷ []
state_at (name ∷ other ∷ more) parts = []

abbrev pub state_by : ListTree → List PartTree → List StateOutline
state_by (list.Names names) parts = state_at names parts
state_by (list.All star names) parts = []

abbrev pub state_of : StateTree → List StateOutline
state_of state = state_by state.list state.parts

abbrev pub states_in : InnerTree-F AggregationPart InnerTree AggregationTree CompositeTree → List StateOutline
states_in (inner.InnerTree::Dcl dcl) = []
states_in (inner.InnerTree::Timer timer) = []
states_in (inner.InnerTree::Procedure procedure) = []
states_in (inner.Start start) = []
states_in (inner.State state) = state_of state
states_in (inner.InnerTree::Composite composite) = []
states_in (inner.Aggregation aggregation) = []
states_in (inner.Connection connection) = []

abbrev pub states_in_inner : InnerTree → List StateOutline
states_in_inner part = states_in (out-InnerTree part)

abbrev pub states_of : ProcessTree → List StateOutline
states_of process = flat_map states_in_inner process.parts

-- ---- the outline

-- of a process that belongs to this block
abbrev pub outline_of : List UnitTree → ProcessTree → Home → Outline
outline_of units process home = record {
  process = process.name;
  around = names_around units home;
  signals = signals_of units process home;
  starts = starts_of process;
  states = states_of process;
}
