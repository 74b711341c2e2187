-- That an outline leaves nothing of its process out (Z.101 clause 11): each part of the process is a START without a name or a STATE
-- with one name; each part of a STATE is an INPUT of one signal, without variables and without a condition; each action is a TASK with
-- a text, or OUTPUT of one signal without values; no action and no terminator has a label; each transition ends in NEXTSTATE with a
-- name. They stand in the outline one by one and in the order of the text. So but for comments, for the texts of TASK and for names
-- behind END words the trees of the parts can be told from the outline. The signals of all systems and blocks stand there too.
use Rattle.std.specs.Prelude.{◌≡◌, Bool, true, ◌&&◌, List, [], ◌∷◌, ◌++◌, Option, Some, None, IsTrue}
use Rattle.std.specs.List.{list_all}
use Rattle.og_base.specs.declared.Place.{Place}
use Rattle.og_ast.specs.declared.ground.HyphenedName.{HyphenedName}
use Rattle.og_ast.specs.declared.ground.Name.{Name}
use Rattle.og_ast.specs.declared.ground.TextTree.{TextTree}
use Rattle.og_ast.specs.declared.state.AggregationPart.{AggregationPart}
use Rattle.og_ast.specs.declared.state.AggregationPart.TheOpen as inner
use Rattle.og_ast.specs.declared.state.AggregationTree.{AggregationTree}
use Rattle.og_ast.specs.declared.state.CompositeTree.{CompositeTree}
use Rattle.og_ast.specs.declared.state.InnerTree.{InnerTree, InnerTree-F, Start, State, out-InnerTree}
use Rattle.og_ast.specs.declared.state.InputTree.{InputTree}
use Rattle.og_ast.specs.declared.state.ListTree.{ListTree}
use Rattle.og_ast.specs.declared.state.ListTree.TheVariants as list
use Rattle.og_ast.specs.declared.state.PartTree.{PartTree}
use Rattle.og_ast.specs.declared.state.PartTree.TheVariants as part
use Rattle.og_ast.specs.declared.state.StartTree.{StartTree}
use Rattle.og_ast.specs.declared.state.StateTree.{StateTree}
use Rattle.og_ast.specs.declared.system.BlockPart.{BlockPart}
use Rattle.og_ast.specs.declared.system.BlockPart.TheVariants as member
use Rattle.og_ast.specs.declared.system.ProcessTree.{ProcessTree}
use Rattle.og_ast.specs.declared.system.SigTree.{SigTree}
use Rattle.og_ast.specs.declared.system.SystemPart.{SystemPart}
use Rattle.og_ast.specs.declared.system.SystemPart.TheVariants as piece
use Rattle.og_ast.specs.declared.system.Unit.{Unit as UnitTree}
use Rattle.og_ast.specs.declared.system.Unit.TheVariants as unit
use Rattle.og_ast.specs.declared.transition.ActionTree.{ActionTree, ActionTree-F, Informal, Output, out-ActionTree}
use Rattle.og_ast.specs.declared.transition.ActionTree.TheOpen as action
use Rattle.og_ast.specs.declared.transition.BranchTree.{BranchTree}
use Rattle.og_ast.specs.declared.transition.DecisionTree.{DecisionTree}
use Rattle.og_ast.specs.declared.transition.ElseTree.{ElseTree}
use Rattle.og_ast.specs.declared.transition.StepTree.{StepTree}
use Rattle.og_ast.specs.declared.transition.TerminatorKind.TheVariants as kind
use Rattle.og_ast.specs.declared.transition.TerminatorTree.{TerminatorTree}
use Rattle.og_ast.specs.declared.transition.TransitionTree.{TransitionTree, out-TransitionTree}
use Rattle.og_system.specs.Bodies.{Home}
use Rattle.og_system.specs.Ways.{has_any, Declaration, all_signals}
use Rattle.og_outline.specs.declared.InputOutline.{InputOutline}
use Rattle.og_outline.specs.declared.NextOutline.{NextOutline}
use Rattle.og_outline.specs.declared.Outline.{Outline}
use Rattle.og_outline.specs.declared.SignalOutline.{SignalOutline}
use Rattle.og_outline.specs.declared.SortOutline.{SortOutline}
use Rattle.og_outline.specs.declared.StartOutline.{StartOutline}
use Rattle.og_outline.specs.declared.StateOutline.{StateOutline}
use Rattle.og_outline.specs.declared.StepOutline.{StepOutline}
use Rattle.og_outline.specs.declared.StepOutline.TheVariants as step
use Rattle.og_outline.specs.Outlines.{hyphened}

-- one of each list with one of the other, in their order, and none is left
abbrev pub Paired : {X Y : Type 0} → (X → Y → Type 0) → List X → List Y → Type 0
Paired Is [] [] = Unit {0}
Paired Is [] (y ∷ ys) = ⊥
Paired Is (x ∷ xs) [] = ⊥
Paired Is (x ∷ xs) (y ∷ ys) = Is x y × Paired Is xs ys

-- ---- transitions

-- TASK with a text
pub record IsText (tree : StepTree) (place : Place) : Type 0 where
  pub text : TextTree
  pub does : tree.action ≡ Informal text
  pub at : tree.place ≡ place
  pub plain : tree.label ≡ None

-- OUTPUT of one signal
pub record IsSent (tree : StepTree) (signal : Name) : Type 0 where
  pub does : tree.action ≡ Output (record { signal = signal; values = [] } ∷ [])
  pub plain : tree.label ≡ None

abbrev pub IsStep : StepTree → StepOutline → Type 0
IsStep tree (step.Nothing place) = IsText tree place
IsStep tree (step.Output signal) = IsSent tree signal

-- NEXTSTATE with a name
pub record IsNext (terminator : Option TerminatorTree) (next : NextOutline) : Type 0 where
  pub tree : TerminatorTree
  pub is : terminator ≡ Some tree
  pub at : tree.place ≡ next.place
  pub leads : tree.kind ≡ kind.Next next.state None
  pub plain : tree.label ≡ None

pub record IsTransition (tree : TransitionTree) (steps : List StepOutline) (next : NextOutline) : Type 0 where
  pub steps_are : Paired IsStep (out-TransitionTree tree).steps steps
  pub next_is : IsNext (out-TransitionTree tree).terminator next

-- ---- starts and states

pub record IsStart (tree : StartTree) (start : StartOutline) : Type 0 where
  pub plain : tree.name ≡ None
  pub at : tree.place ≡ start.place
  pub goes : IsTransition tree.transition start.steps start.next

pub record IsInput (p : PartTree) (input : InputOutline) : Type 0 where
  pub tree : InputTree
  pub is : p ≡ part.Input tree
  pub at : tree.place ≡ input.place
  pub receives : tree.inputs ≡ record { signal = input.signal; variables = [] } ∷ []
  pub plain : tree.enabling ≡ None
  pub goes : IsTransition tree.transition input.steps input.next

pub record IsState (tree : StateTree) (state : StateOutline) : Type 0 where
  pub named : tree.list ≡ list.Names (state.name ∷ [])
  pub inputs_are : Paired IsInput tree.parts state.inputs

-- ---- the parts of a process, with the starts and the states that they are

pub data ArePartsOf : List InnerTree → List StartOutline → List StateOutline → Type 0 where
  no_part : ArePartsOf [] [] []
  then_start : (tree : StartTree) (start : StartOutline) {parts : List InnerTree} {starts : List StartOutline} {states : List StateOutline}
      → IsStart tree start → ArePartsOf parts starts states → ArePartsOf (Start tree ∷ parts) (start ∷ starts) states
  then_state : (tree : StateTree) (state : StateOutline) {parts : List InnerTree} {starts : List StartOutline} {states : List StateOutline}
      → IsState tree state → ArePartsOf parts starts states → ArePartsOf (State tree ∷ parts) starts (state ∷ states)

-- ---- signals

-- the name of a type, with a hyphen between each two of its names
pub record IsSort (tree : HyphenedName) (sort : SortOutline) : Type 0 where
  pub first : Name
  pub more : List Name
  pub parts : tree.parts ≡ first ∷ more
  pub at : first.place ≡ sort.place
  pub spelt : sort.word.bytes ≡ first.word.bytes ++ hyphened more

pub record IsSignal (tree : Declaration) (signal : SignalOutline) : Type 0 where
  pub named : tree.signal.name ≡ signal.name
  pub seen : tree.visible ≡ signal.visible
  pub sorts_are : Paired IsSort tree.signal.sorts signal.sorts

-- ---- the outline

pub record IsWhole (units : List UnitTree) (process : ProcessTree) (home : Home) (outline : Outline) : Type 0 where
  -- there is a start
  pub begins : IsTrue (has_any outline.starts)
  pub parts_are : ArePartsOf process.parts outline.starts outline.states
  pub signals_are : Paired IsSignal (all_signals units home) outline.signals

-- ---- what the grammar gives: STATE has a name or *, INPUT and OUTPUT have a signal, TASK has a text or an assignment, and the name of
-- a type in SIGNAL has a part

abbrev pub is_filled_action : ActionTree-F ActionTree BranchTree DecisionTree ElseTree StepTree TransitionTree → Bool
is_filled_action (action.Informal text) = true
is_filled_action (action.Task assigns) = has_any assigns
is_filled_action (action.Output outs) = has_any outs
is_filled_action (action.Call call) = true
is_filled_action (action.Decision decision) = true

abbrev pub is_filled_step : StepTree → Bool
is_filled_step tree = is_filled_action (out-ActionTree tree.action)

-- the actions of a transition, but not those in its decisions
abbrev pub is_filled_transition : TransitionTree → Bool
is_filled_transition tree = list_all is_filled_step (out-TransitionTree tree).steps

abbrev pub is_filled_part : PartTree → Bool
is_filled_part (part.Input input) = has_any input.inputs && is_filled_transition input.transition
is_filled_part (part.Provided provided) = true
is_filled_part (part.Connect connect) = true
is_filled_part (part.Save save) = true

abbrev pub is_filled_list : ListTree → Bool
is_filled_list (list.Names names) = has_any names
is_filled_list (list.All star names) = true

abbrev pub is_filled_inner_by : InnerTree-F AggregationPart InnerTree AggregationTree CompositeTree → Bool
is_filled_inner_by (inner.InnerTree::Dcl dcl) = true
is_filled_inner_by (inner.InnerTree::Timer timer) = true
is_filled_inner_by (inner.InnerTree::Procedure procedure) = true
is_filled_inner_by (inner.Start start) = is_filled_transition start.transition
is_filled_inner_by (inner.State state) = is_filled_list state.list && list_all is_filled_part state.parts
is_filled_inner_by (inner.InnerTree::Composite composite) = true
is_filled_inner_by (inner.Aggregation aggregation) = true
is_filled_inner_by (inner.Connection connection) = true

abbrev pub is_filled_inner : InnerTree → Bool
is_filled_inner part = is_filled_inner_by (out-InnerTree part)

-- the starts and the states of a process
abbrev pub is_filled_process : ProcessTree → Bool
is_filled_process process = list_all is_filled_inner process.parts

abbrev pub is_filled_sort : HyphenedName → Bool
is_filled_sort name = has_any name.parts

abbrev pub is_filled_signal : SigTree → Bool
is_filled_signal signal = list_all is_filled_sort signal.sorts

abbrev pub is_filled_block_part : BlockPart → Bool
is_filled_block_part (member.Signal signal) = list_all is_filled_signal signal.signals
is_filled_block_part (member.Route route) = true
is_filled_block_part (member.Link link) = true
is_filled_block_part (member.Process process) = is_filled_process process
is_filled_block_part (member.Reference reference) = true

abbrev pub is_filled_system_part : SystemPart → Bool
is_filled_system_part (piece.Use use') = true
is_filled_system_part (piece.Signal signal) = list_all is_filled_signal signal.signals
is_filled_system_part (piece.Channel channel) = true
is_filled_system_part (piece.Procedure procedure) = true
is_filled_system_part (piece.Block block) = list_all is_filled_block_part block.parts

abbrev pub is_filled_unit : UnitTree → Bool
is_filled_unit (unit.Use use') = true
is_filled_unit (unit.System system) = list_all is_filled_system_part system.parts
is_filled_unit (unit.Process process) = is_filled_process process

abbrev pub are_filled : List UnitTree → Bool
are_filled units = list_all is_filled_unit units
