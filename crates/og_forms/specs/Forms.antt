-- The forms of SDL/PR beyond signals without parameters and basic states that send them (Z.101 clauses 9 to 12, Z.102 clauses 9 to
-- 12): which of them stand in the trees of files, in the order of the text, each with the place of its first token. A form that is
-- not built violates F1 there. COMMENT, USE, channels, routes and their links, counts and references are no forms of this list.
use Rattle.std.specs.Prelude.{ℕ, Bool, true, false, not, nat_lt, List, [], ◌∷◌, ◌++◌, length, flat_map, Option, Some, None, is_some, codes, if◌then◌else◌}
use Rattle.std.specs.List.{list_any}
use Rattle.std.specs.Str.{bytes_eq}
use Rattle.og_base.specs.declared.Place.{Place}
use Rattle.og_base.specs.declared.Rule.TheVariants.{F1}
use Rattle.og_base.specs.declared.Violation.{Violation}
use Rattle.og_base.specs.Order.{first_from}
use Rattle.og_names.specs.Folding.{folded}
use Rattle.og_ast.specs.declared.ground.Name.{Name}
use Rattle.og_ast.specs.declared.data.DclTree.{DclTree}
use Rattle.og_ast.specs.declared.procedure.ConnectionTree.{ConnectionTree}
use Rattle.og_ast.specs.declared.procedure.ProcedureBody.{ProcedureBody}
use Rattle.og_ast.specs.declared.procedure.ProcedureBody.TheVariants as body
use Rattle.og_ast.specs.declared.procedure.ProcedureTree.{ProcedureTree}
use Rattle.og_ast.specs.declared.expression.VarTree.{out-VarTree}
use Rattle.og_ast.specs.declared.state.AggregationPart.{AggregationPart, AggregationPart-F, fold-AggregationPart}
use Rattle.og_ast.specs.declared.state.AggregationTree.{AggregationTree, AggregationTree-F, fold-AggregationTree}
use Rattle.og_ast.specs.declared.state.CompositeTree.{CompositeTree, CompositeTree-F, fold-CompositeTree}
use Rattle.og_ast.specs.declared.state.EnablingTree.{EnablingTree}
use Rattle.og_ast.specs.declared.state.InnerTree.{InnerTree, InnerTree-F, fold-InnerTree}
use Rattle.og_ast.specs.declared.state.AggregationPart.TheOpen as inner
use Rattle.og_ast.specs.declared.state.InputTree.{InputTree}
use Rattle.og_ast.specs.declared.state.InTree.{InTree}
use Rattle.og_ast.specs.declared.state.ListTree.{ListTree}
use Rattle.og_ast.specs.declared.state.ListTree.TheVariants as list
use Rattle.og_ast.specs.declared.state.PartTree.{PartTree}
use Rattle.og_ast.specs.declared.state.PartTree.TheVariants as part
use Rattle.og_ast.specs.declared.state.StartTree.{StartTree}
use Rattle.og_ast.specs.declared.state.StateTree.{StateTree}
use Rattle.og_ast.specs.declared.system.BlockPart.{BlockPart}
use Rattle.og_ast.specs.declared.system.BlockPart.TheVariants as member
use Rattle.og_ast.specs.declared.system.SignalTree.{SignalTree}
use Rattle.og_ast.specs.declared.system.SigTree.{SigTree}
use Rattle.og_ast.specs.declared.system.SystemPart.{SystemPart}
use Rattle.og_ast.specs.declared.system.SystemPart.TheVariants as piece
use Rattle.og_ast.specs.declared.system.Unit.{Unit as UnitTree}
use Rattle.og_ast.specs.declared.system.Unit.TheVariants as unit
use Rattle.og_ast.specs.declared.transition.ActionTree.{ActionTree, ActionTree-F, fold-ActionTree}
use Rattle.og_ast.specs.declared.transition.ActionTree.TheOpen as action
use Rattle.og_ast.specs.declared.transition.AssignTree.{AssignTree}
use Rattle.og_ast.specs.declared.transition.AssignedTree.{AssignedTree}
use Rattle.og_ast.specs.declared.transition.AssignedTree.TheVariants as assigned
use Rattle.og_ast.specs.declared.transition.BranchTree.{BranchTree, BranchTree-F, fold-BranchTree}
use Rattle.og_ast.specs.declared.transition.CallTree.{CallTree}
use Rattle.og_ast.specs.declared.transition.DecisionTree.{DecisionTree, DecisionTree-F, fold-DecisionTree}
use Rattle.og_ast.specs.declared.transition.ElseTree.{ElseTree, ElseTree-F, fold-ElseTree}
use Rattle.og_ast.specs.declared.transition.OutTree.{OutTree}
use Rattle.og_ast.specs.declared.transition.StepTree.{StepTree, StepTree-F, fold-StepTree}
use Rattle.og_ast.specs.declared.transition.TerminatorKind.{TerminatorKind}
use Rattle.og_ast.specs.declared.transition.TerminatorKind.TheVariants as kind
use Rattle.og_ast.specs.declared.transition.TerminatorTree.{TerminatorTree}
use Rattle.og_ast.specs.declared.transition.TransitionTree.{TransitionTree, TransitionTree-F, fold-TransitionTree}
use Rattle.og_forms.specs.declared.form.Form.{Form}
use Rattle.og_forms.specs.declared.form.Form.TheVariants as form

-- ---- forms that stand in a text

-- a form, and the place of its first token
pub record FormAt : Type 0 where
  pub form : Form
  pub place : Place

abbrev pub Forms : Type 0
Forms = List FormAt

abbrev pub at : Form → Place → FormAt
at f place = record { form = f; place = place }

-- the form, where it stands there
abbrev pub when : Bool → Form → Place → Forms
when stands f place = if stands then at f place ∷ [] else []

-- those of something that may be left out
abbrev pub maybe : {X : Type 0} → (X → Forms) → Option X → Forms
maybe forms None = []
maybe forms (Some x) = forms x

-- one at least
abbrev pub is_any : {X : Type 0} → List X → Bool
is_any xs = nat_lt 0 (length xs)

-- more than one
abbrev pub are_several : {X : Type 0} → List X → Bool
are_several xs = nat_lt 1 (length xs)

-- ---- actions and terminators

-- a label before an action or a terminator
abbrev pub in_label : Option Name → Forms
in_label label = maybe (λ (name : Name). at form.Label name.place ∷ []) label

abbrev pub is_one_of : List (List ℕ) → List ℕ → Bool
is_one_of words name = list_any (λ word. bytes_eq (folded name) word) words

-- CALL alone, by the name that is called
abbrev pub call_form : CallTree → Form
call_form call =
    if is_one_of (codes "append" ∷ codes "write" ∷ codes "writeln" ∷ []) call.procedure.word.bytes then form.WriteCall
    else (if is_one_of (codes "set_timer" ∷ codes "reset_timer" ∷ []) call.procedure.word.bytes then form.TimerCall else form.ProcedureCall)

-- whether the right side of an assignment is no CALL
abbrev pub is_value : AssignTree → Bool
is_value assign = by assign.value
  where
    by : AssignedTree → Bool
    by (assigned.Call place call) = false
    by (assigned.Value value) = true

-- an assignment from CALL stands at its target
abbrev pub in_assign : AssignTree → Forms
in_assign assign = when (not (is_value assign)) form.AssignedCall (out-VarTree assign.target).name.place

-- TASK, which stands at the place, with assignments
abbrev pub in_task : List AssignTree → Place → Forms
in_task assigns place = when (list_any is_value assigns) form.Assignment place ++ flat_map in_assign assigns

abbrev pub has_values : OutTree → Bool
has_values out = is_any out.values

-- OUTPUT, which stands at the place
abbrev pub in_output : List OutTree → Place → Forms
in_output outs place = when (are_several outs) form.SeveralOutputs place ++ when (list_any has_values outs) form.OutputValues place

-- a terminator whose keyword stands at the place
abbrev pub in_end : TerminatorKind → Place → Forms
in_end (kind.Dash dash) place = at form.Dash place ∷ []
in_end (kind.History dash) place = at form.History place ∷ []
in_end (kind.Next state None) place = []
in_end (kind.Next state (Some via)) place = at form.Via place ∷ []
in_end (kind.Join label) place = at form.Join place ∷ []
in_end (kind.Return result) place = at form.Return place ∷ []
in_end kind.Stop place = at form.Stop place ∷ []

abbrev pub in_terminator : TerminatorTree → Forms
in_terminator end = in_label end.label ++ in_end end.kind end.place

-- ---- transitions, from the forms of their parts. An action has its forms where its keyword stands at a place

abbrev pub transition_layer : TransitionTree-F (Place → Forms) Forms Forms Forms Forms Forms → Forms
transition_layer t = flat_map (λ step. step) t.steps ++ maybe in_terminator t.terminator

abbrev pub step_layer : StepTree-F (Place → Forms) Forms Forms Forms Forms Forms → Forms
step_layer step = in_label step.label ++ step.action step.place

abbrev pub action_layer : ActionTree-F (Place → Forms) Forms Forms Forms Forms Forms → Place → Forms
action_layer (action.Informal text) place = at form.InformalTask place ∷ []
action_layer (action.Task assigns) place = in_task assigns place
action_layer (action.Output outs) place = in_output outs place
action_layer (action.Call call) place = at (call_form call) place ∷ []
action_layer (action.Decision decision) place = at form.Decision place ∷ decision

abbrev pub decision_layer : DecisionTree-F (Place → Forms) Forms Forms Forms Forms Forms → Forms
decision_layer d = flat_map (λ branch. branch) d.branches ++ maybe (λ otherwise. otherwise) d.otherwise

abbrev pub branch_layer : BranchTree-F (Place → Forms) Forms Forms Forms Forms Forms → Forms
branch_layer branch = branch.transition

abbrev pub else_layer : ElseTree-F (Place → Forms) Forms Forms Forms Forms Forms → Forms
else_layer otherwise = otherwise.transition

unfoldable pub in_transition : TransitionTree → Forms
in_transition t = fold-TransitionTree (Place → Forms) Forms Forms Forms Forms Forms action_layer branch_layer decision_layer else_layer step_layer transition_layer t

unfoldable pub in_step : StepTree → Forms
in_step s = fold-StepTree (Place → Forms) Forms Forms Forms Forms Forms action_layer branch_layer decision_layer else_layer step_layer transition_layer s

unfoldable pub in_action : ActionTree → Place → Forms
in_action a = fold-ActionTree (Place → Forms) Forms Forms Forms Forms Forms action_layer branch_layer decision_layer else_layer step_layer transition_layer a

unfoldable pub in_decision : DecisionTree → Forms
in_decision d = fold-DecisionTree (Place → Forms) Forms Forms Forms Forms Forms action_layer branch_layer decision_layer else_layer step_layer transition_layer d

unfoldable pub in_branch : BranchTree → Forms
in_branch b = fold-BranchTree (Place → Forms) Forms Forms Forms Forms Forms action_layer branch_layer decision_layer else_layer step_layer transition_layer b

unfoldable pub in_else : ElseTree → Forms
in_else e = fold-ElseTree (Place → Forms) Forms Forms Forms Forms Forms action_layer branch_layer decision_layer else_layer step_layer transition_layer e

-- ---- starts, states and procedures

abbrev pub in_start : StartTree → Forms
in_start start = when (is_some start.name) form.NamedStart start.place ++ in_transition start.transition

-- the names of STATE, which stands at the place
abbrev pub in_list : ListTree → Place → Forms
in_list (list.Names names) place = when (are_several names) form.SeveralStates place
in_list (list.All star names) place = at form.EveryState place ∷ []

abbrev pub has_variables : InTree → Bool
has_variables input = is_any input.variables

abbrev pub in_enabling : Option EnablingTree → Forms
in_enabling enabling = maybe (λ (condition : EnablingTree). at form.EnablingCondition condition.place ∷ []) enabling

abbrev pub in_input : InputTree → Forms
in_input input =
    when (are_several input.inputs) form.SeveralInputs input.place ++ (when (list_any has_variables input.inputs) form.InputVariables input.place
    ++ (in_enabling input.enabling ++ in_transition input.transition))

abbrev pub in_part : PartTree → Forms
in_part (part.Input input) = in_input input
in_part (part.Provided provided) = at form.ContinuousSignal provided.place ∷ in_transition provided.transition
in_part (part.Connect connect) = at form.Connect connect.place ∷ in_transition connect.transition
in_part (part.Save save) = at form.Save save.place ∷ []

abbrev pub in_state : StateTree → Forms
in_state state = in_list state.list state.place ++ flat_map in_part state.parts

abbrev pub in_dcl : DclTree → Forms
in_dcl dcl = at form.Dcl dcl.place ∷ []

abbrev pub in_connection : ConnectionTree → Forms
in_connection connection = at form.Connection connection.place ∷ in_transition connection.transition

abbrev pub in_body : ProcedureBody → Forms
in_body (body.External place end) = []
in_body (body.Own dcls place end transition connections closing) = flat_map in_dcl dcls ++ (in_transition transition ++ flat_map in_connection connections)

abbrev pub in_procedure : ProcedureTree → Forms
in_procedure procedure = at form.Procedure procedure.place ∷ in_body procedure.body

-- ---- what stands in processes and composite states, from the forms of its parts

abbrev pub inner_layer : InnerTree-F Forms Forms Forms Forms → Forms
inner_layer (inner.InnerTree::Dcl dcl) = in_dcl dcl
inner_layer (inner.InnerTree::Timer timer) = at form.Timer timer.place ∷ []
inner_layer (inner.InnerTree::Procedure procedure) = in_procedure procedure
inner_layer (inner.Start start) = in_start start
inner_layer (inner.State state) = in_state state
inner_layer (inner.InnerTree::Composite composite) = composite
inner_layer (inner.Aggregation aggregation) = aggregation
inner_layer (inner.Connection connection) = in_connection connection

abbrev pub composite_layer : CompositeTree-F Forms Forms Forms Forms → Forms
composite_layer composite = at form.CompositeState composite.place ∷ flat_map (λ part. part) composite.parts

abbrev pub aggregation_layer : AggregationTree-F Forms Forms Forms Forms → Forms
aggregation_layer aggregation = at form.Aggregation aggregation.place ∷ flat_map (λ part. part) aggregation.parts

abbrev pub partition_layer : AggregationPart-F Forms Forms Forms Forms → Forms
partition_layer (inner.AggregationPart::Dcl dcl) = in_dcl dcl
partition_layer (inner.AggregationPart::Timer timer) = at form.Timer timer.place ∷ []
partition_layer (inner.AggregationPart::Procedure procedure) = in_procedure procedure
partition_layer (inner.Empty state) = []
partition_layer (inner.AggregationPart::Composite composite) = composite

unfoldable pub in_inner : InnerTree → Forms
in_inner i = fold-InnerTree Forms Forms Forms Forms partition_layer inner_layer aggregation_layer composite_layer i

unfoldable pub in_composite : CompositeTree → Forms
in_composite c = fold-CompositeTree Forms Forms Forms Forms partition_layer inner_layer aggregation_layer composite_layer c

unfoldable pub in_aggregation : AggregationTree → Forms
in_aggregation a = fold-AggregationTree Forms Forms Forms Forms partition_layer inner_layer aggregation_layer composite_layer a

unfoldable pub in_partition : AggregationPart → Forms
in_partition p = fold-AggregationPart Forms Forms Forms Forms partition_layer inner_layer aggregation_layer composite_layer p

-- ---- units

abbrev pub has_parameters : SigTree → Bool
has_parameters sig = is_any sig.sorts

abbrev pub in_signal : SignalTree → Forms
in_signal signal = when (list_any has_parameters signal.signals) form.Parameters signal.place

abbrev pub in_block_part : BlockPart → Forms
in_block_part (member.Signal signal) = in_signal signal
in_block_part (member.Route route) = []
in_block_part (member.Link link) = []
in_block_part (member.Process process) = flat_map in_inner process.parts
in_block_part (member.Reference reference) = []

abbrev pub in_system_part : SystemPart → Forms
in_system_part (piece.Use use') = []
in_system_part (piece.Signal signal) = in_signal signal
in_system_part (piece.Channel channel) = []
in_system_part (piece.Procedure procedure) = in_procedure procedure
in_system_part (piece.Block block) = flat_map in_block_part block.parts

abbrev pub in_unit : UnitTree → Forms
in_unit (unit.Use use') = []
in_unit (unit.System system) = flat_map in_system_part system.parts
in_unit (unit.Process process) = flat_map in_inner process.parts

-- the forms of the units of all files
abbrev pub forms_in : List UnitTree → Forms
forms_in units = flat_map in_unit units

-- ---- forms that are not built

-- whether models with the form can be compiled: types of signals' parameters, and tasks that are a text
unfoldable pub is_built : Form → Bool
is_built form.Parameters = true
is_built form.InformalTask = true
is_built _ = false

-- F1 at the form, where it is not built
abbrev pub violation_at : FormAt → List Violation
violation_at f = if is_built f.form then [] else (record { rule = F1; place = f.place } ∷ [])

-- F1 at each form that is not built
abbrev pub unbuilt : Forms → List Violation
unbuilt forms = flat_map violation_at forms

abbrev pub unbuilt_in : List UnitTree → List Violation
unbuilt_in units = unbuilt (forms_in units)

-- the first violation of one that is known and those of these forms
abbrev pub noted : Option Violation → Forms → Option Violation
noted first forms = first_from first (unbuilt forms)
