-- Transitions that do not close (A7), and what lacks a START without a name (A1), in a process and in the procedures of systems (after
-- Z.102 clauses 11.12 and 11.13, which lets a transition end in a decision only where each of its branches ends). A transition closes
-- where it has a terminator, or where its last action is a decision of which each branch closes, ELSE among them where it is there.
use Rattle.std.specs.Prelude.{Bool, true, false, not, ◌&&◌, ◌||◌, List, [], ◌∷◌, ◌++◌, flat_map, Option, Some, None, is_some, if◌then◌else◌}
use Rattle.std.specs.List.{list_all, list_any}
use Rattle.og_base.specs.declared.Place.{Place}
use Rattle.og_base.specs.declared.Rule.TheVariants.{A1, A7}
use Rattle.og_base.specs.declared.Violation.{Violation}
use Rattle.og_base.specs.Order.{first_of}
use Rattle.og_ast.specs.declared.ground.Name.{Name}
use Rattle.og_ast.specs.declared.procedure.ConnectionTree.{ConnectionTree}
use Rattle.og_ast.specs.declared.procedure.ProcedureBody.{ProcedureBody}
use Rattle.og_ast.specs.declared.procedure.ProcedureBody.TheVariants as body
use Rattle.og_ast.specs.declared.procedure.ProcedureTree.{ProcedureTree}
use Rattle.og_ast.specs.declared.state.AggregationPart.{AggregationPart, AggregationPart-F, fold-AggregationPart}
use Rattle.og_ast.specs.declared.state.AggregationTree.{AggregationTree, AggregationTree-F, fold-AggregationTree}
use Rattle.og_ast.specs.declared.state.CompositeTree.{CompositeTree, CompositeTree-F, fold-CompositeTree}
use Rattle.og_ast.specs.declared.state.InnerTree.{InnerTree, InnerTree-F, fold-InnerTree}
use Rattle.og_ast.specs.declared.state.AggregationPart.TheOpen as inner
use Rattle.og_ast.specs.declared.state.PartTree.{PartTree}
use Rattle.og_ast.specs.declared.state.PartTree.TheVariants as part
use Rattle.og_ast.specs.declared.state.StartTree.{StartTree}
use Rattle.og_ast.specs.declared.state.StateTree.{StateTree}
use Rattle.og_ast.specs.declared.system.ProcessTree.{ProcessTree}
use Rattle.og_ast.specs.declared.system.SystemPart.{SystemPart}
use Rattle.og_ast.specs.declared.system.SystemPart.TheVariants as piece
use Rattle.og_ast.specs.declared.system.Unit.{Unit as UnitTree}
use Rattle.og_ast.specs.declared.system.Unit.TheVariants as unit
use Rattle.og_ast.specs.declared.transition.ActionTree.{ActionTree, ActionTree-F, fold-ActionTree}
use Rattle.og_ast.specs.declared.transition.ActionTree.TheOpen as action
use Rattle.og_ast.specs.declared.transition.BranchTree.{BranchTree, BranchTree-F, fold-BranchTree}
use Rattle.og_ast.specs.declared.transition.DecisionTree.{DecisionTree, DecisionTree-F, fold-DecisionTree}
use Rattle.og_ast.specs.declared.transition.ElseTree.{ElseTree, ElseTree-F, fold-ElseTree}
use Rattle.og_ast.specs.declared.transition.StepTree.{StepTree, StepTree-F, fold-StepTree}
use Rattle.og_ast.specs.declared.transition.TransitionTree.{TransitionTree, TransitionTree-F, fold-TransitionTree}

-- ---- which transitions close, from which of their parts do

-- whether the last one passes; none passes where there is none
abbrev pub does_last : List Bool → Bool
does_last [] = false
does_last (b ∷ []) = b
does_last (b ∷ c ∷ bs) = does_last (c ∷ bs)

-- where nothing stands, nothing fails to close
abbrev pub or_absent : Option Bool → Bool
or_absent None = true
or_absent (Some closes) = closes

abbrev pub transition_layer : TransitionTree-F Bool Bool Bool Bool Bool Bool → Bool
transition_layer t = is_some t.terminator || does_last t.steps

abbrev pub step_layer : StepTree-F Bool Bool Bool Bool Bool Bool → Bool
step_layer step = step.action

abbrev pub action_layer : ActionTree-F Bool Bool Bool Bool Bool Bool → Bool
action_layer (action.Informal text) = false
action_layer (action.Task assigns) = false
action_layer (action.Output outs) = false
action_layer (action.Call call) = false
action_layer (action.Decision decision) = decision

abbrev pub decision_layer : DecisionTree-F Bool Bool Bool Bool Bool Bool → Bool
decision_layer d = list_all (λ branch. branch) d.branches && or_absent d.otherwise

abbrev pub branch_layer : BranchTree-F Bool Bool Bool Bool Bool Bool → Bool
branch_layer branch = branch.transition

abbrev pub else_layer : ElseTree-F Bool Bool Bool Bool Bool Bool → Bool
else_layer otherwise = otherwise.transition

unfoldable pub closes : TransitionTree → Bool
closes t = fold-TransitionTree Bool Bool Bool Bool Bool Bool action_layer branch_layer decision_layer else_layer step_layer transition_layer t

unfoldable pub step_closes : StepTree → Bool
step_closes s = fold-StepTree Bool Bool Bool Bool Bool Bool action_layer branch_layer decision_layer else_layer step_layer transition_layer s

unfoldable pub action_closes : ActionTree → Bool
action_closes a = fold-ActionTree Bool Bool Bool Bool Bool Bool action_layer branch_layer decision_layer else_layer step_layer transition_layer a

unfoldable pub decision_closes : DecisionTree → Bool
decision_closes d = fold-DecisionTree Bool Bool Bool Bool Bool Bool action_layer branch_layer decision_layer else_layer step_layer transition_layer d

unfoldable pub branch_closes : BranchTree → Bool
branch_closes b = fold-BranchTree Bool Bool Bool Bool Bool Bool action_layer branch_layer decision_layer else_layer step_layer transition_layer b

unfoldable pub else_closes : ElseTree → Bool
else_closes e = fold-ElseTree Bool Bool Bool Bool Bool Bool action_layer branch_layer decision_layer else_layer step_layer transition_layer e

-- ---- A7, at the keyword of what the transition belongs to

abbrev pub unclosed : Place → TransitionTree → List Violation
unclosed place t = if closes t then [] else record { rule = A7; place = place } ∷ []

abbrev pub in_start : StartTree → List Violation
in_start start = unclosed start.place start.transition

abbrev pub in_part : PartTree → List Violation
in_part (part.Input input) = unclosed input.place input.transition
in_part (part.Provided provided) = unclosed provided.place provided.transition
in_part (part.Connect connect) = unclosed connect.place connect.transition
in_part (part.Save save) = []

abbrev pub in_state : StateTree → List Violation
in_state state = flat_map in_part state.parts

abbrev pub in_connection : ConnectionTree → List Violation
in_connection connection = unclosed connection.place connection.transition

abbrev pub in_body : ProcedureBody → List Violation
in_body (body.External place end) = []
in_body (body.Own dcls place end transition connections closing) = unclosed place transition ++ flat_map in_connection connections

abbrev pub in_procedure : ProcedureTree → List Violation
in_procedure procedure = in_body procedure.body

-- ---- A1, at the name of a process or of a partition

abbrev pub without_start : Bool → Name → List Violation
without_start has_start name = if has_start then [] else record { rule = A1; place = name.place } ∷ []

-- ---- what stands in processes and composite states: whether it is a START without a name, and the violations in it. A composite state
-- has them as a partition of an aggregation, or as another one

abbrev pub Within : Type 0
Within = Bool × List Violation

abbrev pub inner_layer : InnerTree-F (List Violation) Within (List Violation) (Bool → List Violation) → Within
inner_layer (inner.InnerTree::Dcl dcl) = (false, [])
inner_layer (inner.InnerTree::Timer timer) = (false, [])
inner_layer (inner.InnerTree::Procedure procedure) = (false, in_procedure procedure)
inner_layer (inner.Start start) = (not (is_some start.name), in_start start)
inner_layer (inner.State state) = (false, in_state state)
inner_layer (inner.InnerTree::Composite composite) = (false, composite false)
inner_layer (inner.Aggregation aggregation) = (false, aggregation)
inner_layer (inner.Connection connection) = (false, in_connection connection)

abbrev pub composite_layer : CompositeTree-F (List Violation) Within (List Violation) (Bool → List Violation) → Bool → List Violation
composite_layer composite is_partition =
    without_start (not is_partition || list_any (λ part. part.0) composite.parts) composite.name ++ flat_map (λ part. part.1) composite.parts

abbrev pub aggregation_layer : AggregationTree-F (List Violation) Within (List Violation) (Bool → List Violation) → List Violation
aggregation_layer aggregation = flat_map (λ part. part) aggregation.parts

abbrev pub partition_layer : AggregationPart-F (List Violation) Within (List Violation) (Bool → List Violation) → List Violation
partition_layer (inner.AggregationPart::Dcl dcl) = []
partition_layer (inner.AggregationPart::Timer timer) = []
partition_layer (inner.AggregationPart::Procedure procedure) = in_procedure procedure
partition_layer (inner.Empty state) = []
partition_layer (inner.AggregationPart::Composite composite) = composite true

unfoldable pub within : InnerTree → Within
within i = fold-InnerTree (List Violation) Within (List Violation) (Bool → List Violation) partition_layer inner_layer aggregation_layer composite_layer i

unfoldable pub in_composite : CompositeTree → Bool → List Violation
in_composite c = fold-CompositeTree (List Violation) Within (List Violation) (Bool → List Violation) partition_layer inner_layer aggregation_layer composite_layer c

unfoldable pub in_aggregation : AggregationTree → List Violation
in_aggregation a = fold-AggregationTree (List Violation) Within (List Violation) (Bool → List Violation) partition_layer inner_layer aggregation_layer composite_layer a

unfoldable pub in_partition : AggregationPart → List Violation
in_partition p = fold-AggregationPart (List Violation) Within (List Violation) (Bool → List Violation) partition_layer inner_layer aggregation_layer composite_layer p

abbrev pub is_plain_start : InnerTree → Bool
is_plain_start i = (within i).0

abbrev pub in_inner : InnerTree → List Violation
in_inner i = (within i).1

-- ---- the process, and the procedures of systems

abbrev pub in_process : ProcessTree → List Violation
in_process process = without_start (list_any is_plain_start process.parts) process.name ++ flat_map in_inner process.parts

abbrev pub in_system_part : SystemPart → List Violation
in_system_part (piece.Use use') = []
in_system_part (piece.Signal signal) = []
in_system_part (piece.Channel channel) = []
in_system_part (piece.Procedure procedure) = in_procedure procedure
in_system_part (piece.Block block) = []

abbrev pub in_unit : UnitTree → List Violation
in_unit (unit.Use use') = []
in_unit (unit.System system) = flat_map in_system_part system.parts
in_unit (unit.Process process) = []

abbrev pub unclosed_in : List UnitTree → ProcessTree → List Violation
unclosed_in units process = flat_map in_unit units ++ in_process process

abbrev pub first_unclosed : List UnitTree → ProcessTree → Option Violation
first_unclosed units process = first_of (unclosed_in units process)
