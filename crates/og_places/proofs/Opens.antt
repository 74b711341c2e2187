-- The places of each tree, from the places of its parts.
use Rattle.std.proofs.Common.{◌≡◌, ℕ, Bool, List, [], ◌∷◌, ◌++◌, Option, Some, None, sym, ap, ◌∙◌}
use Rattle.std.specs.List.{flat_map}
use Rattle.std.proofs.lemmas.List.Folds.{flat_map-map}
use Rattle.og_base.specs.declared.Place.{Place}
use Rattle.og_ast.specs.declared.ground.Name.{Name}
use Rattle.og_ast.specs.declared.ground.EndTree.{EndTree}
use Rattle.og_ast.specs.declared.ground.TextTree.{TextTree}
use Rattle.og_ast.specs.declared.expression.ExprNode.{Number, Truth, Variable, Bracketed, Minus, Not, Binary, Choice, Sequence, Components, fold-roll-ExprNode}
use Rattle.og_ast.specs.declared.expression.ExprNode.TheOpen as node
use Rattle.og_ast.specs.declared.expression.ExprNode.TheVariants.{rolls-Number, rolls-Truth, rolls-Variable, rolls-Bracketed, rolls-Minus, rolls-Not, rolls-Binary, rolls-Choice, rolls-Sequence, rolls-Components}
use Rattle.og_ast.specs.declared.expression.ExprTree.{ExprTree, fold-roll-ExprTree}
use Rattle.og_ast.specs.declared.expression.ComponentTree.{ComponentTree, fold-roll-ComponentTree}
use Rattle.og_ast.specs.declared.expression.Operator.{Operator}
use Rattle.og_ast.specs.declared.expression.VarTree.{VarTree, out-VarTree, roll-VarTree, fold_out-VarTree, fold-roll-VarTree}
use Rattle.og_ast.specs.declared.expression.SelectorTree.{SelectorTree, fold-roll-SelectorTree}
use Rattle.og_ast.specs.declared.expression.SelectorKind.{Dot, Exclamation, Index, fold-roll-SelectorKind}
use Rattle.og_ast.specs.declared.expression.SelectorKind.TheVariants.{rolls-Dot, rolls-Exclamation, rolls-Index}
use Rattle.og_ast.specs.declared.expression.FieldTree.{FieldTree}
use Rattle.og_ast.specs.declared.data.DclTree.{DclTree}
use Rattle.og_ast.specs.declared.data.TimerTree.{TimerTree}
use Rattle.og_ast.specs.declared.procedure.ConnectionTree.{ConnectionTree}
use Rattle.og_ast.specs.declared.procedure.ProcedureTree.{ProcedureTree}
use Rattle.og_ast.specs.declared.state.AggregationPart.{AggregationPart, fold-roll-AggregationPart}
use Rattle.og_ast.specs.declared.state.AggregationPart as other
use Rattle.og_ast.specs.declared.state.AggregationPart.TheOpen as open'
use Rattle.og_ast.specs.declared.state.AggregationPart.TheVariants as partition
use Rattle.og_ast.specs.declared.state.AggregationTree.{AggregationTree, fold-roll-AggregationTree}
use Rattle.og_ast.specs.declared.state.CompositeTree.{CompositeTree, fold-roll-CompositeTree}
use Rattle.og_ast.specs.declared.state.EmptyStateTree.{EmptyStateTree}
use Rattle.og_ast.specs.declared.state.InnerTree.{Dcl, Timer, Procedure, Start, State, Composite, Aggregation, Connection, fold-roll-InnerTree}
use Rattle.og_ast.specs.declared.state.InnerTree.TheVariants as inner
use Rattle.og_ast.specs.declared.state.StartTree.{StartTree}
use Rattle.og_ast.specs.declared.state.StateTree.{StateTree}
use Rattle.og_ast.specs.declared.transition.ActionTree.{Informal, Task, Output, Call, Decision, fold-roll-ActionTree}
use Rattle.og_ast.specs.declared.transition.ActionTree.TheOpen as action
use Rattle.og_ast.specs.declared.transition.ActionTree.TheVariants.{rolls-Informal, rolls-Task, rolls-Output, rolls-Call, rolls-Decision}
use Rattle.og_ast.specs.declared.transition.AnswerTree.{AnswerTree}
use Rattle.og_ast.specs.declared.transition.AssignTree.{AssignTree}
use Rattle.og_ast.specs.declared.transition.BranchTree.{BranchTree, out-BranchTree, roll-BranchTree, fold_out-BranchTree, fold-roll-BranchTree}
use Rattle.og_ast.specs.declared.transition.CallTree.{CallTree}
use Rattle.og_ast.specs.declared.transition.DecisionTree.{DecisionTree, out-DecisionTree, roll-DecisionTree, roll-out-DecisionTree, fold-roll-DecisionTree}
use Rattle.og_ast.specs.declared.transition.ElseTree.{ElseTree, out-ElseTree, roll-ElseTree, fold_out-ElseTree, fold-roll-ElseTree}
use Rattle.og_ast.specs.declared.transition.OutTree.{OutTree}
use Rattle.og_ast.specs.declared.transition.QuestionTree.{QuestionTree}
use Rattle.og_ast.specs.declared.transition.StepTree.{StepTree, fold-roll-StepTree}
use Rattle.og_ast.specs.declared.transition.TerminatorTree.{TerminatorTree}
use Rattle.og_ast.specs.declared.transition.TransitionTree.{TransitionTree, out-TransitionTree, roll-TransitionTree, fold_out-TransitionTree, fold-roll-TransitionTree}
use Rattle.og_places.specs.Contents.{Places, maybe, places_in_name, places_in_end, places_in_text, places_in_closing, places_in_field, node_layer, selected_layer, component_layer, expr_layer, selector_layer, var_layer, places_in_node, places_in_selected, places_in_component, places_in_expr, places_in_selector, places_in_var, places_in_dcl, places_in_timer, places_in_assign, places_in_out, places_in_call, places_in_question, places_in_answer, places_in_terminator, action_layer, branch_layer, decision_layer, else_layer, step_layer, transition_layer, places_in_action, places_in_branch, places_in_decision, places_in_else, places_in_step, places_in_transition, places_in_connection, places_in_procedure, places_in_start, places_in_state, places_in_points, places_in_empty, partition_layer, inner_layer, aggregation_layer, composite_layer, places_in_partition, places_in_inner, places_in_aggregation, places_in_composite}

-- ---- expressions

pub of-Number : (n : ℕ) → places_in_node (Number n) ≡ []
unfolding places_in_node
of-Number n = ap places_in_node (sym (rolls-Number n)) ∙ fold-roll-ExprNode Places Places Places Places Places Places node_layer selected_layer component_layer expr_layer selector_layer var_layer (node.Number n)

pub of-Truth : (b : Bool) → places_in_node (Truth b) ≡ []
unfolding places_in_node
of-Truth b = ap places_in_node (sym (rolls-Truth b)) ∙ fold-roll-ExprNode Places Places Places Places Places Places node_layer selected_layer component_layer expr_layer selector_layer var_layer (node.Truth b)

pub of-Variable : (v : VarTree) → places_in_node (Variable v) ≡ places_in_var v
unfolding places_in_node places_in_var
of-Variable v = ap places_in_node (sym (rolls-Variable v)) ∙ fold-roll-ExprNode Places Places Places Places Places Places node_layer selected_layer component_layer expr_layer selector_layer var_layer (node.Variable v)

pub of-Bracketed : (e : ExprTree) → places_in_node (Bracketed e) ≡ places_in_expr e
unfolding places_in_node places_in_expr
of-Bracketed e = ap places_in_node (sym (rolls-Bracketed e)) ∙ fold-roll-ExprNode Places Places Places Places Places Places node_layer selected_layer component_layer expr_layer selector_layer var_layer (node.Bracketed e)

pub of-Minus : (e : ExprTree) → places_in_node (Minus e) ≡ places_in_expr e
unfolding places_in_node places_in_expr
of-Minus e = ap places_in_node (sym (rolls-Minus e)) ∙ fold-roll-ExprNode Places Places Places Places Places Places node_layer selected_layer component_layer expr_layer selector_layer var_layer (node.Minus e)

pub of-Not : (e : ExprTree) → places_in_node (Not e) ≡ places_in_expr e
unfolding places_in_node places_in_expr
of-Not e = ap places_in_node (sym (rolls-Not e)) ∙ fold-roll-ExprNode Places Places Places Places Places Places node_layer selected_layer component_layer expr_layer selector_layer var_layer (node.Not e)

pub of-Binary : (o : Operator) (a b : ExprTree) → places_in_node (Binary o a b) ≡ places_in_expr a ++ places_in_expr b
unfolding places_in_node places_in_expr
of-Binary o a b = ap places_in_node (sym (rolls-Binary o a b)) ∙ fold-roll-ExprNode Places Places Places Places Places Places node_layer selected_layer component_layer expr_layer selector_layer var_layer (node.Binary o a b)

pub of-Choice : (name : Name) (e : ExprTree) → places_in_node (Choice name e) ≡ places_in_name name ++ places_in_expr e
unfolding places_in_node places_in_expr
of-Choice name e = ap places_in_node (sym (rolls-Choice name e)) ∙ fold-roll-ExprNode Places Places Places Places Places Places node_layer selected_layer component_layer expr_layer selector_layer var_layer (node.Choice name e)

pub of-Sequence : (es : List ExprTree) → places_in_node (Sequence es) ≡ flat_map places_in_expr es
unfolding places_in_node places_in_expr
of-Sequence es = ap places_in_node (sym (rolls-Sequence es)) ∙ fold-roll-ExprNode Places Places Places Places Places Places node_layer selected_layer component_layer expr_layer selector_layer var_layer (node.Sequence es) ∙ flat_map-map (λ ps. ps) places_in_expr es

pub of-Components : (cs : List ComponentTree) → places_in_node (Components cs) ≡ flat_map places_in_component cs
unfolding places_in_node places_in_component
of-Components cs = ap places_in_node (sym (rolls-Components cs)) ∙ fold-roll-ExprNode Places Places Places Places Places Places node_layer selected_layer component_layer expr_layer selector_layer var_layer (node.Components cs) ∙ flat_map-map (λ ps. ps) places_in_component cs

pub of-Dot : (f : FieldTree) → places_in_selected (Dot f) ≡ places_in_field f
unfolding places_in_selected
of-Dot f = ap places_in_selected (sym (rolls-Dot f)) ∙ fold-roll-SelectorKind Places Places Places Places Places Places node_layer selected_layer component_layer expr_layer selector_layer var_layer (node.Dot f)

pub of-Exclamation : (f : FieldTree) → places_in_selected (Exclamation f) ≡ places_in_field f
unfolding places_in_selected
of-Exclamation f = ap places_in_selected (sym (rolls-Exclamation f)) ∙ fold-roll-SelectorKind Places Places Places Places Places Places node_layer selected_layer component_layer expr_layer selector_layer var_layer (node.Exclamation f)

pub of-Index : (e : ExprTree) → places_in_selected (Index e) ≡ places_in_expr e
unfolding places_in_selected places_in_expr
of-Index e = ap places_in_selected (sym (rolls-Index e)) ∙ fold-roll-SelectorKind Places Places Places Places Places Places node_layer selected_layer component_layer expr_layer selector_layer var_layer (node.Index e)

pub of-component : (c : ComponentTree) → places_in_component c ≡ places_in_name c.name ++ places_in_expr c.value
unfolding places_in_component places_in_expr
of-component c = fold-roll-ComponentTree Places Places Places Places Places Places node_layer selected_layer component_layer expr_layer selector_layer var_layer (record { name = c.name; value = c.value })

pub of-expr : (e : ExprTree) → places_in_expr e ≡ e.place ∷ (e.first ∷ places_in_node e.node)
unfolding places_in_expr places_in_node
of-expr e = fold-roll-ExprTree Places Places Places Places Places Places node_layer selected_layer component_layer expr_layer selector_layer var_layer (record { place = e.place; first = e.first; node = e.node })

pub of-selector : (s : SelectorTree) → places_in_selector s ≡ s.place ∷ places_in_selected s.kind
unfolding places_in_selector places_in_selected
of-selector s = fold-roll-SelectorTree Places Places Places Places Places Places node_layer selected_layer component_layer expr_layer selector_layer var_layer (record { place = s.place; kind = s.kind })

pub of-var : (v : VarTree) → places_in_var v ≡ places_in_name (out-VarTree v).name ++ flat_map places_in_selector (out-VarTree v).selectors
unfolding places_in_var places_in_selector
of-var v =
    fold_out-VarTree Places Places Places Places Places Places node_layer selected_layer component_layer expr_layer selector_layer var_layer v
    ∙ ap (λ ps. places_in_name (out-VarTree v).name ++ ps) (flat_map-map (λ ps. ps) places_in_selector (out-VarTree v).selectors)

pub of-variable : (name : Name) (selectors : List SelectorTree) → places_in_var (roll-VarTree (record { name = name; selectors = selectors })) ≡ places_in_name name ++ flat_map places_in_selector selectors
unfolding places_in_var places_in_selector
of-variable name selectors =
    fold-roll-VarTree Places Places Places Places Places Places node_layer selected_layer component_layer expr_layer selector_layer var_layer (record { name = name; selectors = selectors })
    ∙ ap (λ ps. places_in_name name ++ ps) (flat_map-map (λ ps. ps) places_in_selector selectors)

-- ---- transitions

pub of-Informal : (text : TextTree) → places_in_action (Informal text) ≡ places_in_text text
unfolding places_in_action
of-Informal text = ap places_in_action (sym (rolls-Informal text)) ∙ fold-roll-ActionTree Places Places Places Places Places Places action_layer branch_layer decision_layer else_layer step_layer transition_layer (action.Informal text)

pub of-Task : (assigns : List AssignTree) → places_in_action (Task assigns) ≡ flat_map places_in_assign assigns
unfolding places_in_action
of-Task assigns = ap places_in_action (sym (rolls-Task assigns)) ∙ fold-roll-ActionTree Places Places Places Places Places Places action_layer branch_layer decision_layer else_layer step_layer transition_layer (action.Task assigns)

pub of-Output : (outs : List OutTree) → places_in_action (Output outs) ≡ flat_map places_in_out outs
unfolding places_in_action
of-Output outs = ap places_in_action (sym (rolls-Output outs)) ∙ fold-roll-ActionTree Places Places Places Places Places Places action_layer branch_layer decision_layer else_layer step_layer transition_layer (action.Output outs)

pub of-Call : (call : CallTree) → places_in_action (Call call) ≡ places_in_call call
unfolding places_in_action
of-Call call = ap places_in_action (sym (rolls-Call call)) ∙ fold-roll-ActionTree Places Places Places Places Places Places action_layer branch_layer decision_layer else_layer step_layer transition_layer (action.Call call)

pub of-Decision : (d : DecisionTree) → places_in_action (Decision d) ≡ places_in_decision d
unfolding places_in_action places_in_decision
of-Decision d = ap places_in_action (sym (rolls-Decision d)) ∙ fold-roll-ActionTree Places Places Places Places Places Places action_layer branch_layer decision_layer else_layer step_layer transition_layer (action.Decision d)

pub of-way : (place : Place) (answers : List AnswerTree) (t : TransitionTree)
    → places_in_branch (roll-BranchTree (record { place = place; answers = answers; transition = t })) ≡ place ∷ (flat_map places_in_answer answers ++ places_in_transition t)
unfolding places_in_branch places_in_transition
of-way place answers t = fold-roll-BranchTree Places Places Places Places Places Places action_layer branch_layer decision_layer else_layer step_layer transition_layer (record { place = place; answers = answers; transition = t })

pub of-branch : (b : BranchTree) → places_in_branch b ≡ (out-BranchTree b).place ∷ (flat_map places_in_answer (out-BranchTree b).answers ++ places_in_transition (out-BranchTree b).transition)
unfolding places_in_branch places_in_transition
of-branch b = fold_out-BranchTree Places Places Places Places Places Places action_layer branch_layer decision_layer else_layer step_layer transition_layer b

pub of-other : (place : Place) (t : TransitionTree) → places_in_else (roll-ElseTree (record { place = place; transition = t })) ≡ place ∷ places_in_transition t
unfolding places_in_else places_in_transition
of-other place t = fold-roll-ElseTree Places Places Places Places Places Places action_layer branch_layer decision_layer else_layer step_layer transition_layer (record { place = place; transition = t })

pub of-else : (e : ElseTree) → places_in_else e ≡ (out-ElseTree e).place ∷ places_in_transition (out-ElseTree e).transition
unfolding places_in_else places_in_transition
of-else e = fold_out-ElseTree Places Places Places Places Places Places action_layer branch_layer decision_layer else_layer step_layer transition_layer e

pub of-choice : (q : QuestionTree) (e : EndTree) (branches : List BranchTree) (otherwise : Option ElseTree)
    → places_in_decision (roll-DecisionTree (record { question = q; «end» = e; branches = branches; otherwise = otherwise }))
    ≡ places_in_question q ++ (places_in_end e ++ (flat_map places_in_branch branches ++ maybe places_in_else otherwise))
unfolding places_in_decision places_in_branch places_in_else
of-choice q e branches None =
    fold-roll-DecisionTree Places Places Places Places Places Places action_layer branch_layer decision_layer else_layer step_layer transition_layer (record { question = q; «end» = e; branches = branches; otherwise = None })
    ∙ ap (λ ps. places_in_question q ++ (places_in_end e ++ (ps ++ []))) (flat_map-map (λ ps. ps) places_in_branch branches)
of-choice q e branches (Some x) =
    fold-roll-DecisionTree Places Places Places Places Places Places action_layer branch_layer decision_layer else_layer step_layer transition_layer (record { question = q; «end» = e; branches = branches; otherwise = Some x })
    ∙ ap (λ ps. places_in_question q ++ (places_in_end e ++ (ps ++ places_in_else x))) (flat_map-map (λ ps. ps) places_in_branch branches)

pub of-decision : (d : DecisionTree) → places_in_decision d
    ≡ places_in_question (out-DecisionTree d).question ++ (places_in_end (out-DecisionTree d).«end» ++ (flat_map places_in_branch (out-DecisionTree d).branches ++ maybe places_in_else (out-DecisionTree d).otherwise))
of-decision d =
    ap places_in_decision (sym (roll-out-DecisionTree d))
    ∙ of-choice (out-DecisionTree d).question (out-DecisionTree d).«end» (out-DecisionTree d).branches (out-DecisionTree d).otherwise

pub of-step : (s : StepTree) → places_in_step s ≡ maybe places_in_name s.label ++ (s.place ∷ (places_in_action s.action ++ places_in_end s.«end»))
unfolding places_in_step places_in_action
of-step s = fold-roll-StepTree Places Places Places Places Places Places action_layer branch_layer decision_layer else_layer step_layer transition_layer (record { label = s.label; place = s.place; action = s.action; «end» = s.«end» })

pub of-transition : (t : TransitionTree) → places_in_transition t ≡ flat_map places_in_step (out-TransitionTree t).steps ++ maybe places_in_terminator (out-TransitionTree t).terminator
unfolding places_in_transition places_in_step
of-transition t =
    fold_out-TransitionTree Places Places Places Places Places Places action_layer branch_layer decision_layer else_layer step_layer transition_layer t
    ∙ ap (λ ps. ps ++ maybe places_in_terminator (out-TransitionTree t).terminator) (flat_map-map (λ ps. ps) places_in_step (out-TransitionTree t).steps)

pub of-steps : (steps : List StepTree) (end : Option TerminatorTree)
    → places_in_transition (roll-TransitionTree (record { steps = steps; terminator = end })) ≡ flat_map places_in_step steps ++ maybe places_in_terminator end
unfolding places_in_transition places_in_step
of-steps steps end =
    fold-roll-TransitionTree Places Places Places Places Places Places action_layer branch_layer decision_layer else_layer step_layer transition_layer (record { steps = steps; terminator = end })
    ∙ ap (λ ps. ps ++ maybe places_in_terminator end) (flat_map-map (λ ps. ps) places_in_step steps)

-- ---- what stands in processes and composite states

pub of-composite : (c : CompositeTree) → places_in_composite c
    ≡ c.place ∷ (places_in_name c.name ++ (places_in_end c.«end» ++ (flat_map places_in_points c.points ++ (flat_map places_in_inner c.parts ++ places_in_closing c.closing))))
unfolding places_in_composite places_in_inner
of-composite c =
    fold-roll-CompositeTree Places Places Places Places partition_layer inner_layer aggregation_layer composite_layer (record { place = c.place; name = c.name; «end» = c.«end»; points = c.points; parts = c.parts; closing = c.closing })
    ∙ ap (λ ps. c.place ∷ (places_in_name c.name ++ (places_in_end c.«end» ++ (flat_map places_in_points c.points ++ (ps ++ places_in_closing c.closing))))) (flat_map-map (λ ps. ps) places_in_inner c.parts)

pub of-aggregation : (a : AggregationTree) → places_in_aggregation a
    ≡ a.place ∷ (places_in_name a.name ++ (places_in_end a.«end» ++ (flat_map places_in_points a.points ++ (flat_map places_in_partition a.parts ++ places_in_closing a.closing))))
unfolding places_in_aggregation places_in_partition
of-aggregation a =
    fold-roll-AggregationTree Places Places Places Places partition_layer inner_layer aggregation_layer composite_layer (record { place = a.place; name = a.name; «end» = a.«end»; points = a.points; parts = a.parts; closing = a.closing })
    ∙ ap (λ ps. a.place ∷ (places_in_name a.name ++ (places_in_end a.«end» ++ (flat_map places_in_points a.points ++ (ps ++ places_in_closing a.closing))))) (flat_map-map (λ ps. ps) places_in_partition a.parts)

pub of-Dcl-inner : (dcl : DclTree) → places_in_inner (Dcl dcl) ≡ places_in_dcl dcl
unfolding places_in_inner
of-Dcl-inner dcl = ap places_in_inner (sym (inner.rolls-Dcl dcl)) ∙ fold-roll-InnerTree Places Places Places Places partition_layer inner_layer aggregation_layer composite_layer (open'.InnerTree::Dcl dcl)

pub of-Timer-inner : (timer : TimerTree) → places_in_inner (Timer timer) ≡ places_in_timer timer
unfolding places_in_inner
of-Timer-inner timer = ap places_in_inner (sym (inner.rolls-Timer timer)) ∙ fold-roll-InnerTree Places Places Places Places partition_layer inner_layer aggregation_layer composite_layer (open'.InnerTree::Timer timer)

pub of-Procedure-inner : (procedure : ProcedureTree) → places_in_inner (Procedure procedure) ≡ places_in_procedure procedure
unfolding places_in_inner
of-Procedure-inner procedure = ap places_in_inner (sym (inner.rolls-Procedure procedure)) ∙ fold-roll-InnerTree Places Places Places Places partition_layer inner_layer aggregation_layer composite_layer (open'.InnerTree::Procedure procedure)

pub of-Start-inner : (start : StartTree) → places_in_inner (Start start) ≡ places_in_start start
unfolding places_in_inner
of-Start-inner start = ap places_in_inner (sym (inner.rolls-Start start)) ∙ fold-roll-InnerTree Places Places Places Places partition_layer inner_layer aggregation_layer composite_layer (open'.Start start)

pub of-State-inner : (state : StateTree) → places_in_inner (State state) ≡ places_in_state state
unfolding places_in_inner
of-State-inner state = ap places_in_inner (sym (inner.rolls-State state)) ∙ fold-roll-InnerTree Places Places Places Places partition_layer inner_layer aggregation_layer composite_layer (open'.State state)

pub of-Composite-inner : (c : CompositeTree) → places_in_inner (Composite c) ≡ places_in_composite c
unfolding places_in_inner places_in_composite
of-Composite-inner c = ap places_in_inner (sym (inner.rolls-Composite c)) ∙ fold-roll-InnerTree Places Places Places Places partition_layer inner_layer aggregation_layer composite_layer (open'.InnerTree::Composite c)

pub of-Aggregation-inner : (a : AggregationTree) → places_in_inner (Aggregation a) ≡ places_in_aggregation a
unfolding places_in_inner places_in_aggregation
of-Aggregation-inner a = ap places_in_inner (sym (inner.rolls-Aggregation a)) ∙ fold-roll-InnerTree Places Places Places Places partition_layer inner_layer aggregation_layer composite_layer (open'.Aggregation a)

pub of-Connection-inner : (connection : ConnectionTree) → places_in_inner (Connection connection) ≡ places_in_connection connection
unfolding places_in_inner
of-Connection-inner connection = ap places_in_inner (sym (inner.rolls-Connection connection)) ∙ fold-roll-InnerTree Places Places Places Places partition_layer inner_layer aggregation_layer composite_layer (open'.Connection connection)

pub of-Dcl-partition : (dcl : DclTree) → places_in_partition (other.Dcl dcl) ≡ places_in_dcl dcl
unfolding places_in_partition
of-Dcl-partition dcl = ap places_in_partition (sym (partition.rolls-Dcl dcl)) ∙ fold-roll-AggregationPart Places Places Places Places partition_layer inner_layer aggregation_layer composite_layer (open'.AggregationPart::Dcl dcl)

pub of-Timer-partition : (timer : TimerTree) → places_in_partition (other.Timer timer) ≡ places_in_timer timer
unfolding places_in_partition
of-Timer-partition timer = ap places_in_partition (sym (partition.rolls-Timer timer)) ∙ fold-roll-AggregationPart Places Places Places Places partition_layer inner_layer aggregation_layer composite_layer (open'.AggregationPart::Timer timer)

pub of-Procedure-partition : (procedure : ProcedureTree) → places_in_partition (other.Procedure procedure) ≡ places_in_procedure procedure
unfolding places_in_partition
of-Procedure-partition procedure = ap places_in_partition (sym (partition.rolls-Procedure procedure)) ∙ fold-roll-AggregationPart Places Places Places Places partition_layer inner_layer aggregation_layer composite_layer (open'.AggregationPart::Procedure procedure)

pub of-Empty-partition : (state : EmptyStateTree) → places_in_partition (other.Empty state) ≡ places_in_empty state
unfolding places_in_partition
of-Empty-partition state = ap places_in_partition (sym (partition.rolls-Empty state)) ∙ fold-roll-AggregationPart Places Places Places Places partition_layer inner_layer aggregation_layer composite_layer (open'.Empty state)

pub of-Composite-partition : (c : CompositeTree) → places_in_partition (other.Composite c) ≡ places_in_composite c
unfolding places_in_partition places_in_composite
of-Composite-partition c = ap places_in_partition (sym (partition.rolls-Composite c)) ∙ fold-roll-AggregationPart Places Places Places Places partition_layer inner_layer aggregation_layer composite_layer (open'.AggregationPart::Composite c)
