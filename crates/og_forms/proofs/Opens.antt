-- The forms of each tree, from the forms of its parts.
use Rattle.std.proofs.Common.{◌≡◌, List, [], ◌∷◌, ◌++◌, Option, Some, None, refl, sym, ap, ◌∙◌}
use Rattle.std.specs.List.{flat_map}
use Rattle.std.proofs.lemmas.List.Folds.{flat_map-map}
use Rattle.og_base.specs.declared.Place.{Place}
use Rattle.og_ast.specs.declared.ground.EndTree.{EndTree}
use Rattle.og_ast.specs.declared.ground.TextTree.{TextTree}
use Rattle.og_ast.specs.declared.data.DclTree.{DclTree}
use Rattle.og_ast.specs.declared.data.TimerTree.{TimerTree}
use Rattle.og_ast.specs.declared.procedure.ConnectionTree.{ConnectionTree}
use Rattle.og_ast.specs.declared.procedure.ProcedureTree.{ProcedureTree}
use Rattle.og_ast.specs.declared.state.AggregationPart.{AggregationPart, fold-roll-AggregationPart}
use Rattle.og_ast.specs.declared.state.AggregationPart as other
use Rattle.og_ast.specs.declared.state.AggregationPart.TheOpen as open'
use Rattle.og_ast.specs.declared.state.AggregationPart.TheVariants as partition
use Rattle.og_ast.specs.declared.state.AggregationTree.{AggregationTree, fold-roll-AggregationTree}
use Rattle.og_ast.specs.declared.state.CompositeTree.{CompositeTree, fold-roll-CompositeTree}
use Rattle.og_ast.specs.declared.state.EmptyStateTree.{EmptyStateTree}
use Rattle.og_ast.specs.declared.state.InnerTree.{InnerTree, Dcl, Timer, Procedure, Start, State, Composite, Aggregation, Connection, fold-roll-InnerTree}
use Rattle.og_ast.specs.declared.state.InnerTree.TheVariants as inner
use Rattle.og_ast.specs.declared.state.StartTree.{StartTree}
use Rattle.og_ast.specs.declared.state.StateTree.{StateTree}
use Rattle.og_ast.specs.declared.transition.ActionTree.{ActionTree, Informal, Task, Output, Call, Decision, fold-roll-ActionTree}
use Rattle.og_ast.specs.declared.transition.ActionTree.TheOpen as action
use Rattle.og_ast.specs.declared.transition.ActionTree.TheVariants.{rolls-Informal, rolls-Task, rolls-Output, rolls-Call, rolls-Decision}
use Rattle.og_ast.specs.declared.transition.AssignTree.{AssignTree}
use Rattle.og_ast.specs.declared.transition.BranchTree.{BranchTree, out-BranchTree, fold_out-BranchTree}
use Rattle.og_ast.specs.declared.transition.CallTree.{CallTree}
use Rattle.og_ast.specs.declared.transition.DecisionTree.{DecisionTree, out-DecisionTree, roll-DecisionTree, roll-out-DecisionTree, fold-roll-DecisionTree}
use Rattle.og_ast.specs.declared.transition.ElseTree.{ElseTree, out-ElseTree, fold_out-ElseTree}
use Rattle.og_ast.specs.declared.transition.OutTree.{OutTree}
use Rattle.og_ast.specs.declared.transition.QuestionTree.{QuestionTree}
use Rattle.og_ast.specs.declared.transition.StepTree.{StepTree, fold-roll-StepTree}
use Rattle.og_ast.specs.declared.transition.TransitionTree.{TransitionTree, out-TransitionTree, fold_out-TransitionTree}
use Rattle.og_forms.specs.declared.form.Form.TheVariants as form
use Rattle.og_forms.specs.Forms.{Forms, at, maybe, in_label, call_form, in_task, in_output, in_terminator, action_layer, branch_layer, decision_layer, else_layer, step_layer, transition_layer, in_action, in_branch, in_decision, in_else, in_step, in_transition, in_dcl, in_procedure, in_start, in_state, in_connection, partition_layer, aggregation_layer, composite_layer, inner_layer, in_partition, in_aggregation, in_composite, in_inner}

-- ---- transitions

pub of-transition : (t : TransitionTree) → in_transition t ≡ flat_map in_step (out-TransitionTree t).steps ++ maybe in_terminator (out-TransitionTree t).terminator
unfolding in_transition in_step
of-transition t =
    fold_out-TransitionTree (Place → Forms) Forms Forms Forms Forms Forms action_layer branch_layer decision_layer else_layer step_layer transition_layer t
    ∙ ap (λ fs. fs ++ maybe in_terminator (out-TransitionTree t).terminator) (flat_map-map (λ fs. fs) in_step (out-TransitionTree t).steps)

pub of-step : (s : StepTree) → in_step s ≡ in_label s.label ++ in_action s.action s.place
unfolding in_step in_action
of-step s =
    fold-roll-StepTree (Place → Forms) Forms Forms Forms Forms Forms action_layer branch_layer decision_layer else_layer step_layer transition_layer
    (record { label = s.label; place = s.place; action = s.action; «end» = s.«end» })

pub of-Informal : (text : TextTree) (place : Place) → in_action (Informal text) place ≡ at form.InformalTask place ∷ []
unfolding in_action
of-Informal text place =
    ap (λ a. in_action a place) (sym (rolls-Informal text))
    ∙ ap (λ forms. forms place) (fold-roll-ActionTree (Place → Forms) Forms Forms Forms Forms Forms action_layer branch_layer decision_layer else_layer step_layer transition_layer (action.Informal text))

pub of-Task : (assigns : List AssignTree) (place : Place) → in_action (Task assigns) place ≡ in_task assigns place
unfolding in_action
of-Task assigns place =
    ap (λ a. in_action a place) (sym (rolls-Task assigns))
    ∙ ap (λ forms. forms place) (fold-roll-ActionTree (Place → Forms) Forms Forms Forms Forms Forms action_layer branch_layer decision_layer else_layer step_layer transition_layer (action.Task assigns))

pub of-Output : (outs : List OutTree) (place : Place) → in_action (Output outs) place ≡ in_output outs place
unfolding in_action
of-Output outs place =
    ap (λ a. in_action a place) (sym (rolls-Output outs))
    ∙ ap (λ forms. forms place) (fold-roll-ActionTree (Place → Forms) Forms Forms Forms Forms Forms action_layer branch_layer decision_layer else_layer step_layer transition_layer (action.Output outs))

pub of-Call : (call : CallTree) (place : Place) → in_action (Call call) place ≡ at (call_form call) place ∷ []
unfolding in_action
of-Call call place =
    ap (λ a. in_action a place) (sym (rolls-Call call))
    ∙ ap (λ forms. forms place) (fold-roll-ActionTree (Place → Forms) Forms Forms Forms Forms Forms action_layer branch_layer decision_layer else_layer step_layer transition_layer (action.Call call))

pub of-Decision : (d : DecisionTree) (place : Place) → in_action (Decision d) place ≡ at form.Decision place ∷ in_decision d
unfolding in_action in_decision
of-Decision d place =
    ap (λ a. in_action a place) (sym (rolls-Decision d))
    ∙ ap (λ forms. forms place) (fold-roll-ActionTree (Place → Forms) Forms Forms Forms Forms Forms action_layer branch_layer decision_layer else_layer step_layer transition_layer (action.Decision d))

pub of-choice : (q : QuestionTree) (e : EndTree) (branches : List BranchTree) (otherwise : Option ElseTree)
    → in_decision (roll-DecisionTree (record { question = q; «end» = e; branches = branches; otherwise = otherwise })) ≡ flat_map in_branch branches ++ maybe in_else otherwise
unfolding in_decision in_branch in_else
of-choice q e branches None =
    fold-roll-DecisionTree (Place → Forms) Forms Forms Forms Forms Forms action_layer branch_layer decision_layer else_layer step_layer transition_layer (record { question = q; «end» = e; branches = branches; otherwise = None })
    ∙ ap (λ fs. fs ++ []) (flat_map-map (λ fs. fs) in_branch branches)
of-choice q e branches (Some x) =
    fold-roll-DecisionTree (Place → Forms) Forms Forms Forms Forms Forms action_layer branch_layer decision_layer else_layer step_layer transition_layer (record { question = q; «end» = e; branches = branches; otherwise = Some x })
    ∙ ap (λ fs. fs ++ in_else x) (flat_map-map (λ fs. fs) in_branch branches)

pub of-decision : (d : DecisionTree) → in_decision d ≡ flat_map in_branch (out-DecisionTree d).branches ++ maybe in_else (out-DecisionTree d).otherwise
of-decision d =
    ap in_decision (sym (roll-out-DecisionTree d))
    ∙ of-choice (out-DecisionTree d).question (out-DecisionTree d).«end» (out-DecisionTree d).branches (out-DecisionTree d).otherwise

pub of-branch : (b : BranchTree) → in_branch b ≡ in_transition (out-BranchTree b).transition
unfolding in_branch in_transition
of-branch b = fold_out-BranchTree (Place → Forms) Forms Forms Forms Forms Forms action_layer branch_layer decision_layer else_layer step_layer transition_layer b

pub of-else : (e : ElseTree) → in_else e ≡ in_transition (out-ElseTree e).transition
unfolding in_else in_transition
of-else e = fold_out-ElseTree (Place → Forms) Forms Forms Forms Forms Forms action_layer branch_layer decision_layer else_layer step_layer transition_layer e

-- ---- what stands in processes and composite states

pub of-composite : (c : CompositeTree) → in_composite c ≡ at form.CompositeState c.place ∷ flat_map in_inner c.parts
unfolding in_composite in_inner
of-composite c =
    fold-roll-CompositeTree Forms Forms Forms Forms partition_layer inner_layer aggregation_layer composite_layer
    (record { place = c.place; name = c.name; «end» = c.«end»; points = c.points; parts = c.parts; closing = c.closing })
    ∙ ap (λ fs. at form.CompositeState c.place ∷ fs) (flat_map-map (λ fs. fs) in_inner c.parts)

pub of-aggregation : (a : AggregationTree) → in_aggregation a ≡ at form.Aggregation a.place ∷ flat_map in_partition a.parts
unfolding in_aggregation in_partition
of-aggregation a =
    fold-roll-AggregationTree Forms Forms Forms Forms partition_layer inner_layer aggregation_layer composite_layer
    (record { place = a.place; name = a.name; «end» = a.«end»; points = a.points; parts = a.parts; closing = a.closing })
    ∙ ap (λ fs. at form.Aggregation a.place ∷ fs) (flat_map-map (λ fs. fs) in_partition a.parts)

pub of-Dcl-inner : (dcl : DclTree) → in_inner (Dcl dcl) ≡ in_dcl dcl
unfolding in_inner
of-Dcl-inner dcl = ap in_inner (sym (inner.rolls-Dcl dcl)) ∙ fold-roll-InnerTree Forms Forms Forms Forms partition_layer inner_layer aggregation_layer composite_layer (open'.InnerTree::Dcl dcl)

pub of-Timer-inner : (timer : TimerTree) → in_inner (Timer timer) ≡ at form.Timer timer.place ∷ []
unfolding in_inner
of-Timer-inner timer = ap in_inner (sym (inner.rolls-Timer timer)) ∙ fold-roll-InnerTree Forms Forms Forms Forms partition_layer inner_layer aggregation_layer composite_layer (open'.InnerTree::Timer timer)

pub of-Procedure-inner : (procedure : ProcedureTree) → in_inner (Procedure procedure) ≡ in_procedure procedure
unfolding in_inner
of-Procedure-inner procedure = ap in_inner (sym (inner.rolls-Procedure procedure)) ∙ fold-roll-InnerTree Forms Forms Forms Forms partition_layer inner_layer aggregation_layer composite_layer (open'.InnerTree::Procedure procedure)

pub of-Start-inner : (start : StartTree) → in_inner (Start start) ≡ in_start start
unfolding in_inner
of-Start-inner start = ap in_inner (sym (inner.rolls-Start start)) ∙ fold-roll-InnerTree Forms Forms Forms Forms partition_layer inner_layer aggregation_layer composite_layer (open'.Start start)

pub of-State-inner : (state : StateTree) → in_inner (State state) ≡ in_state state
unfolding in_inner
of-State-inner state = ap in_inner (sym (inner.rolls-State state)) ∙ fold-roll-InnerTree Forms Forms Forms Forms partition_layer inner_layer aggregation_layer composite_layer (open'.State state)

pub of-Composite-inner : (c : CompositeTree) → in_inner (Composite c) ≡ in_composite c
unfolding in_inner in_composite
of-Composite-inner c = ap in_inner (sym (inner.rolls-Composite c)) ∙ fold-roll-InnerTree Forms Forms Forms Forms partition_layer inner_layer aggregation_layer composite_layer (open'.InnerTree::Composite c)

pub of-Aggregation-inner : (a : AggregationTree) → in_inner (Aggregation a) ≡ in_aggregation a
unfolding in_inner in_aggregation
of-Aggregation-inner a = ap in_inner (sym (inner.rolls-Aggregation a)) ∙ fold-roll-InnerTree Forms Forms Forms Forms partition_layer inner_layer aggregation_layer composite_layer (open'.Aggregation a)

pub of-Connection-inner : (connection : ConnectionTree) → in_inner (Connection connection) ≡ in_connection connection
unfolding in_inner
of-Connection-inner connection = ap in_inner (sym (inner.rolls-Connection connection)) ∙ fold-roll-InnerTree Forms Forms Forms Forms partition_layer inner_layer aggregation_layer composite_layer (open'.Connection connection)

pub of-Dcl-partition : (dcl : DclTree) → in_partition (other.Dcl dcl) ≡ in_dcl dcl
unfolding in_partition
of-Dcl-partition dcl = ap in_partition (sym (partition.rolls-Dcl dcl)) ∙ fold-roll-AggregationPart Forms Forms Forms Forms partition_layer inner_layer aggregation_layer composite_layer (open'.AggregationPart::Dcl dcl)

pub of-Timer-partition : (timer : TimerTree) → in_partition (other.Timer timer) ≡ at form.Timer timer.place ∷ []
unfolding in_partition
of-Timer-partition timer = ap in_partition (sym (partition.rolls-Timer timer)) ∙ fold-roll-AggregationPart Forms Forms Forms Forms partition_layer inner_layer aggregation_layer composite_layer (open'.AggregationPart::Timer timer)

pub of-Procedure-partition : (procedure : ProcedureTree) → in_partition (other.Procedure procedure) ≡ in_procedure procedure
unfolding in_partition
of-Procedure-partition procedure = ap in_partition (sym (partition.rolls-Procedure procedure)) ∙ fold-roll-AggregationPart Forms Forms Forms Forms partition_layer inner_layer aggregation_layer composite_layer (open'.AggregationPart::Procedure procedure)

pub of-Empty-partition : (state : EmptyStateTree) → in_partition (other.Empty state) ≡ []
unfolding in_partition
of-Empty-partition state = ap in_partition (sym (partition.rolls-Empty state)) ∙ fold-roll-AggregationPart Forms Forms Forms Forms partition_layer inner_layer aggregation_layer composite_layer (open'.Empty state)

pub of-Composite-partition : (c : CompositeTree) → in_partition (other.Composite c) ≡ in_composite c
unfolding in_partition in_composite
of-Composite-partition c = ap in_partition (sym (partition.rolls-Composite c)) ∙ fold-roll-AggregationPart Forms Forms Forms Forms partition_layer inner_layer aggregation_layer composite_layer (open'.AggregationPart::Composite c)

pub ruleset opens = (of-transition, of-step, of-Informal, of-Task, of-Output, of-Call, of-Decision, of-decision, of-branch, of-else, of-composite, of-aggregation, of-Dcl-inner, of-Timer-inner, of-Procedure-inner, of-Start-inner, of-State-inner, of-Composite-inner, of-Aggregation-inner, of-Connection-inner, of-Dcl-partition, of-Timer-partition, of-Procedure-partition, of-Empty-partition, of-Composite-partition)
