-- Which places the trees of SDL/PR texts (Z.106) keep: those of names, keywords, marks, numbers and character strings. Each place that
-- a tree holds is one of them, those of its parts too.
use Rattle.std.specs.Prelude.{List, [], ◌∷◌, ◌++◌, Option, Some, None}
use Rattle.std.specs.List.{flat_map}
use Rattle.og_base.specs.declared.Place.{Place}
use Rattle.og_ast.specs.declared.ground.Name.{Name}
use Rattle.og_ast.specs.declared.ground.HyphenedName.{HyphenedName}
use Rattle.og_ast.specs.declared.ground.TextTree.{TextTree}
use Rattle.og_ast.specs.declared.ground.EndTree.{EndTree}
use Rattle.og_ast.specs.declared.ground.ClosingTree.{ClosingTree}
use Rattle.og_ast.specs.declared.expression.ExprNode.{ExprNode, ExprNode-F, fold-ExprNode}
use Rattle.og_ast.specs.declared.expression.ExprNode.TheOpen as node
use Rattle.og_ast.specs.declared.expression.ExprTree.{ExprTree, ExprTree-F, fold-ExprTree}
use Rattle.og_ast.specs.declared.expression.ComponentTree.{ComponentTree, ComponentTree-F, fold-ComponentTree}
use Rattle.og_ast.specs.declared.expression.VarTree.{VarTree, VarTree-F, fold-VarTree}
use Rattle.og_ast.specs.declared.expression.SelectorTree.{SelectorTree, SelectorTree-F, fold-SelectorTree}
use Rattle.og_ast.specs.declared.expression.SelectorKind.{SelectorKind, SelectorKind-F, fold-SelectorKind}
use Rattle.og_ast.specs.declared.expression.FieldTree.{FieldTree}
use Rattle.og_ast.specs.declared.expression.FieldTree.TheVariants as field
use Rattle.og_ast.specs.declared.data.DclTree.{DclTree}
use Rattle.og_ast.specs.declared.data.ItemTree.{ItemTree}
use Rattle.og_ast.specs.declared.data.TimerTree.{TimerTree}
use Rattle.og_ast.specs.declared.data.FparTree.{FparTree}
use Rattle.og_ast.specs.declared.data.FormalTree.{FormalTree}
use Rattle.og_ast.specs.declared.data.ReturnsTree.{ReturnsTree}
use Rattle.og_ast.specs.declared.transition.ActionTree.{ActionTree, ActionTree-F, fold-ActionTree}
use Rattle.og_ast.specs.declared.transition.ActionTree.TheOpen as action
use Rattle.og_ast.specs.declared.transition.AnswerTree.{AnswerTree}
use Rattle.og_ast.specs.declared.transition.AnswerTree.TheVariants as answer
use Rattle.og_ast.specs.declared.transition.ArgTree.{ArgTree}
use Rattle.og_ast.specs.declared.transition.ArgTree.TheVariants as arg
use Rattle.og_ast.specs.declared.transition.AssignTree.{AssignTree}
use Rattle.og_ast.specs.declared.transition.AssignedTree.{AssignedTree}
use Rattle.og_ast.specs.declared.transition.AssignedTree.TheVariants as assigned
use Rattle.og_ast.specs.declared.transition.BranchTree.{BranchTree, BranchTree-F, fold-BranchTree}
use Rattle.og_ast.specs.declared.transition.CallTree.{CallTree}
use Rattle.og_ast.specs.declared.transition.ConstTree.{ConstTree}
use Rattle.og_ast.specs.declared.transition.ConstTree.TheVariants as constant
use Rattle.og_ast.specs.declared.transition.DecisionTree.{DecisionTree, DecisionTree-F, fold-DecisionTree}
use Rattle.og_ast.specs.declared.transition.ElseTree.{ElseTree, ElseTree-F, fold-ElseTree}
use Rattle.og_ast.specs.declared.transition.OutTree.{OutTree}
use Rattle.og_ast.specs.declared.transition.QuestionTree.{QuestionTree}
use Rattle.og_ast.specs.declared.transition.QuestionTree.TheVariants as question
use Rattle.og_ast.specs.declared.transition.StepTree.{StepTree, StepTree-F, fold-StepTree}
use Rattle.og_ast.specs.declared.transition.TerminatorKind.{TerminatorKind}
use Rattle.og_ast.specs.declared.transition.TerminatorKind.TheVariants as kind
use Rattle.og_ast.specs.declared.transition.TerminatorTree.{TerminatorTree}
use Rattle.og_ast.specs.declared.transition.TransitionTree.{TransitionTree, TransitionTree-F, fold-TransitionTree}
use Rattle.og_ast.specs.declared.procedure.ConnectionTree.{ConnectionTree}
use Rattle.og_ast.specs.declared.procedure.ProcedureBody.{ProcedureBody}
use Rattle.og_ast.specs.declared.procedure.ProcedureBody.TheVariants as body
use Rattle.og_ast.specs.declared.procedure.ProcedureTree.{ProcedureTree}
use Rattle.og_ast.specs.declared.state.AggregationPart.{AggregationPart, AggregationPart-F, fold-AggregationPart}
use Rattle.og_ast.specs.declared.state.AggregationPart.TheOpen as inner
use Rattle.og_ast.specs.declared.state.AggregationTree.{AggregationTree, AggregationTree-F, fold-AggregationTree}
use Rattle.og_ast.specs.declared.state.CompositeTree.{CompositeTree, CompositeTree-F, fold-CompositeTree}
use Rattle.og_ast.specs.declared.state.ConnectTree.{ConnectTree}
use Rattle.og_ast.specs.declared.state.EmptyStateTree.{EmptyStateTree}
use Rattle.og_ast.specs.declared.state.EnablingTree.{EnablingTree}
use Rattle.og_ast.specs.declared.state.InTree.{InTree}
use Rattle.og_ast.specs.declared.state.InnerTree.{InnerTree, InnerTree-F, fold-InnerTree}
use Rattle.og_ast.specs.declared.state.InputTree.{InputTree}
use Rattle.og_ast.specs.declared.state.ListTree.{ListTree}
use Rattle.og_ast.specs.declared.state.ListTree.TheVariants as list
use Rattle.og_ast.specs.declared.state.PartTree.{PartTree}
use Rattle.og_ast.specs.declared.state.PartTree.TheVariants as part
use Rattle.og_ast.specs.declared.state.PointsTree.{PointsTree}
use Rattle.og_ast.specs.declared.state.PriorityTree.{PriorityTree}
use Rattle.og_ast.specs.declared.state.ProvidedTree.{ProvidedTree}
use Rattle.og_ast.specs.declared.state.SaveTree.{SaveTree}
use Rattle.og_ast.specs.declared.state.StartTree.{StartTree}
use Rattle.og_ast.specs.declared.state.StateTree.{StateTree}
use Rattle.og_ast.specs.declared.system.BlockPart.{BlockPart}
use Rattle.og_ast.specs.declared.system.BlockPart.TheVariants as member
use Rattle.og_ast.specs.declared.system.BlockTree.{BlockTree}
use Rattle.og_ast.specs.declared.system.ChannelTree.{ChannelTree}
use Rattle.og_ast.specs.declared.system.CountTree.{CountTree}
use Rattle.og_ast.specs.declared.system.LinkTree.{LinkTree}
use Rattle.og_ast.specs.declared.system.PathTree.{PathTree}
use Rattle.og_ast.specs.declared.system.PointTree.{PointTree}
use Rattle.og_ast.specs.declared.system.PointTree.TheVariants as point
use Rattle.og_ast.specs.declared.system.ProcessTree.{ProcessTree}
use Rattle.og_ast.specs.declared.system.ReferenceTree.{ReferenceTree}
use Rattle.og_ast.specs.declared.system.RouteTree.{RouteTree}
use Rattle.og_ast.specs.declared.system.SigTree.{SigTree}
use Rattle.og_ast.specs.declared.system.SignalTree.{SignalTree}
use Rattle.og_ast.specs.declared.system.SystemPart.{SystemPart}
use Rattle.og_ast.specs.declared.system.SystemPart.TheVariants as piece
use Rattle.og_ast.specs.declared.system.SystemTree.{SystemTree}
use Rattle.og_ast.specs.declared.system.Unit.{Unit as UnitTree}
use Rattle.og_ast.specs.declared.system.Unit.TheVariants as unit
use Rattle.og_ast.specs.declared.system.UseTree.{UseTree}

abbrev pub Places : Type 0
Places = List Place

-- those of something that may be left out
abbrev pub maybe : {X : Type 0} → (X → Places) → Option X → Places
maybe places None = []
maybe places (Some x) = places x

-- ---- names, texts and ends

abbrev pub places_in_name : Name → Places
places_in_name name = name.place ∷ []

abbrev pub places_in_names : List Name → Places
places_in_names names = flat_map places_in_name names

abbrev pub places_in_hyphened : HyphenedName → Places
places_in_hyphened h = places_in_names h.parts

abbrev pub places_in_text : TextTree → Places
places_in_text t = t.place ∷ []

abbrev pub places_in_end : EndTree → Places
places_in_end e = maybe places_in_text e.comment ++ (e.place ∷ [])

abbrev pub places_in_closing : ClosingTree → Places
places_in_closing c = c.place ∷ (maybe places_in_name c.name ++ places_in_end c.«end»)

abbrev pub places_in_field : FieldTree → Places
places_in_field (field.Name name) = places_in_name name
places_in_field (field.Keyword place word) = place ∷ []

-- ---- expressions, from the places of their parts

abbrev pub node_layer : ExprNode-F Places Places Places Places Places Places → Places
node_layer (node.Number n) = []
node_layer (node.Truth b) = []
node_layer (node.Variable v) = v
node_layer (node.Bracketed e) = e
node_layer (node.Minus e) = e
node_layer (node.Not e) = e
node_layer (node.Binary o a b) = a ++ b
node_layer (node.Choice name e) = places_in_name name ++ e
node_layer (node.Sequence es) = flat_map (λ e. e) es
node_layer (node.Components cs) = flat_map (λ c. c) cs

abbrev pub selected_layer : SelectorKind-F Places Places Places Places Places Places → Places
selected_layer (node.Dot f) = places_in_field f
selected_layer (node.Exclamation f) = places_in_field f
selected_layer (node.Index e) = e

abbrev pub component_layer : ComponentTree-F Places Places Places Places Places Places → Places
component_layer c = places_in_name c.name ++ c.value

abbrev pub expr_layer : ExprTree-F Places Places Places Places Places Places → Places
expr_layer e = e.place ∷ (e.first ∷ e.node)

abbrev pub selector_layer : SelectorTree-F Places Places Places Places Places Places → Places
selector_layer s = s.place ∷ s.kind

abbrev pub var_layer : VarTree-F Places Places Places Places Places Places → Places
var_layer v = places_in_name v.name ++ flat_map (λ s. s) v.selectors

unfoldable pub places_in_node : ExprNode → Places
places_in_node n = fold-ExprNode Places Places Places Places Places Places node_layer selected_layer component_layer expr_layer selector_layer var_layer n

unfoldable pub places_in_selected : SelectorKind → Places
places_in_selected k = fold-SelectorKind Places Places Places Places Places Places node_layer selected_layer component_layer expr_layer selector_layer var_layer k

unfoldable pub places_in_component : ComponentTree → Places
places_in_component c = fold-ComponentTree Places Places Places Places Places Places node_layer selected_layer component_layer expr_layer selector_layer var_layer c

unfoldable pub places_in_expr : ExprTree → Places
places_in_expr e = fold-ExprTree Places Places Places Places Places Places node_layer selected_layer component_layer expr_layer selector_layer var_layer e

unfoldable pub places_in_selector : SelectorTree → Places
places_in_selector s = fold-SelectorTree Places Places Places Places Places Places node_layer selected_layer component_layer expr_layer selector_layer var_layer s

unfoldable pub places_in_var : VarTree → Places
places_in_var v = fold-VarTree Places Places Places Places Places Places node_layer selected_layer component_layer expr_layer selector_layer var_layer v

-- ---- declarations

abbrev pub places_in_item : ItemTree → Places
places_in_item i = places_in_names i.names ++ (places_in_hyphened i.sort ++ maybe places_in_expr i.initial)

abbrev pub places_in_dcl : DclTree → Places
places_in_dcl d = d.place ∷ (flat_map places_in_item d.items ++ places_in_end d.«end»)

abbrev pub places_in_timer : TimerTree → Places
places_in_timer t = t.place ∷ (places_in_names t.names ++ places_in_end t.«end»)

abbrev pub places_in_formal : FormalTree → Places
places_in_formal f = places_in_names f.names ++ places_in_hyphened f.sort

abbrev pub places_in_fpar : FparTree → Places
places_in_fpar f = f.place ∷ (flat_map places_in_formal f.formals ++ places_in_end f.«end»)

abbrev pub places_in_returns : ReturnsTree → Places
places_in_returns r = r.place ∷ (places_in_hyphened r.sort ++ places_in_end r.«end»)

-- ---- actions but decisions

abbrev pub places_in_arg : ArgTree → Places
places_in_arg (arg.Value e) = places_in_expr e
places_in_arg (arg.Text t) = places_in_text t

abbrev pub places_in_args : List ArgTree → Places
places_in_args args = flat_map places_in_arg args

abbrev pub places_in_call : CallTree → Places
places_in_call c = places_in_name c.procedure ++ maybe places_in_args c.args

abbrev pub places_in_assigned : AssignedTree → Places
places_in_assigned (assigned.Call place c) = place ∷ places_in_call c
places_in_assigned (assigned.Value e) = places_in_expr e

abbrev pub places_in_assign : AssignTree → Places
places_in_assign a = places_in_var a.target ++ places_in_assigned a.value

abbrev pub places_in_out : OutTree → Places
places_in_out o = places_in_name o.signal ++ flat_map places_in_expr o.values

-- ---- questions and answers

abbrev pub places_in_question : QuestionTree → Places
places_in_question (question.Value e) = places_in_expr e
places_in_question (question.Any place) = place ∷ []
places_in_question (question.Text t) = places_in_text t

abbrev pub places_in_const : ConstTree → Places
places_in_const (constant.Number place n) = place ∷ []
places_in_const (constant.Negative place n) = place ∷ []
places_in_const (constant.Name name) = places_in_name name
places_in_const (constant.Truth place b) = place ∷ []

abbrev pub places_in_answer : AnswerTree → Places
places_in_answer (answer.One c) = places_in_const c
places_in_answer (answer.Range low high) = places_in_const low ++ places_in_const high
places_in_answer (answer.Relation place relation c) = place ∷ places_in_const c

-- ---- terminators

abbrev pub places_in_kind : TerminatorKind → Places
places_in_kind (kind.Dash dash) = dash ∷ []
places_in_kind (kind.History dash) = dash ∷ []
places_in_kind (kind.Next state via) = places_in_name state ++ maybe places_in_name via
places_in_kind (kind.Join label) = places_in_name label
places_in_kind (kind.Return result) = maybe places_in_expr result
places_in_kind kind.Stop = []

abbrev pub places_in_terminator : TerminatorTree → Places
places_in_terminator t = maybe places_in_name t.label ++ (t.place ∷ (places_in_kind t.kind ++ places_in_end t.«end»))

-- ---- transitions, from the places of their parts

abbrev pub action_layer : ActionTree-F Places Places Places Places Places Places → Places
action_layer (action.Informal text) = places_in_text text
action_layer (action.Task assigns) = flat_map places_in_assign assigns
action_layer (action.Output outs) = flat_map places_in_out outs
action_layer (action.Call call) = places_in_call call
action_layer (action.Decision decision) = decision

abbrev pub branch_layer : BranchTree-F Places Places Places Places Places Places → Places
branch_layer b = b.place ∷ (flat_map places_in_answer b.answers ++ b.transition)

abbrev pub decision_layer : DecisionTree-F Places Places Places Places Places Places → Places
decision_layer d = places_in_question d.question ++ (places_in_end d.«end» ++ (flat_map (λ branch. branch) d.branches ++ maybe (λ otherwise. otherwise) d.otherwise))

abbrev pub else_layer : ElseTree-F Places Places Places Places Places Places → Places
else_layer e = e.place ∷ e.transition

abbrev pub step_layer : StepTree-F Places Places Places Places Places Places → Places
step_layer s = maybe places_in_name s.label ++ (s.place ∷ (s.action ++ places_in_end s.«end»))

abbrev pub transition_layer : TransitionTree-F Places Places Places Places Places Places → Places
transition_layer t = flat_map (λ step. step) t.steps ++ maybe places_in_terminator t.terminator

unfoldable pub places_in_action : ActionTree → Places
places_in_action a = fold-ActionTree Places Places Places Places Places Places action_layer branch_layer decision_layer else_layer step_layer transition_layer a

unfoldable pub places_in_branch : BranchTree → Places
places_in_branch b = fold-BranchTree Places Places Places Places Places Places action_layer branch_layer decision_layer else_layer step_layer transition_layer b

unfoldable pub places_in_decision : DecisionTree → Places
places_in_decision d = fold-DecisionTree Places Places Places Places Places Places action_layer branch_layer decision_layer else_layer step_layer transition_layer d

unfoldable pub places_in_else : ElseTree → Places
places_in_else e = fold-ElseTree Places Places Places Places Places Places action_layer branch_layer decision_layer else_layer step_layer transition_layer e

unfoldable pub places_in_step : StepTree → Places
places_in_step s = fold-StepTree Places Places Places Places Places Places action_layer branch_layer decision_layer else_layer step_layer transition_layer s

unfoldable pub places_in_transition : TransitionTree → Places
places_in_transition t = fold-TransitionTree Places Places Places Places Places Places action_layer branch_layer decision_layer else_layer step_layer transition_layer t

-- ---- connections and procedures

abbrev pub places_in_connection : ConnectionTree → Places
places_in_connection c = c.place ∷ (places_in_name c.label ++ (places_in_transition c.transition ++ places_in_end c.«end»))

abbrev pub places_in_body : ProcedureBody → Places
places_in_body (body.External place end) = place ∷ places_in_end end
places_in_body (body.Own dcls place end transition connections closing) =
    flat_map places_in_dcl dcls
    ++ (place ∷ (places_in_end end ++ (places_in_transition transition ++ (flat_map places_in_connection connections ++ places_in_closing closing))))

abbrev pub places_in_procedure : ProcedureTree → Places
places_in_procedure p =
    p.place ∷ (places_in_name p.name ++ (places_in_end p.«end» ++ (maybe places_in_fpar p.fpar ++ (maybe places_in_returns p.returns ++ places_in_body p.body))))

-- ---- starts and basic states

abbrev pub places_in_start : StartTree → Places
places_in_start s = s.place ∷ (maybe places_in_name s.name ++ (places_in_end s.«end» ++ places_in_transition s.transition))

abbrev pub places_in_list : ListTree → Places
places_in_list (list.Names names) = places_in_names names
places_in_list (list.All place names) = place ∷ places_in_names names

abbrev pub places_in_in : InTree → Places
places_in_in i = places_in_name i.signal ++ places_in_names i.variables

abbrev pub places_in_enabling : EnablingTree → Places
places_in_enabling e = e.place ∷ (places_in_expr e.condition ++ places_in_end e.«end»)

abbrev pub places_in_input : InputTree → Places
places_in_input i =
    i.place ∷ (flat_map places_in_in i.inputs ++ (places_in_end i.«end» ++ (maybe places_in_enabling i.enabling ++ places_in_transition i.transition)))

abbrev pub places_in_priority : PriorityTree → Places
places_in_priority p = p.place ∷ places_in_end p.«end»

abbrev pub places_in_provided : ProvidedTree → Places
places_in_provided p =
    p.place ∷ (places_in_expr p.condition ++ (places_in_end p.«end» ++ (maybe places_in_priority p.priority ++ places_in_transition p.transition)))

abbrev pub places_in_connect : ConnectTree → Places
places_in_connect c = c.place ∷ (places_in_names c.names ++ (places_in_end c.«end» ++ places_in_transition c.transition))

abbrev pub places_in_save : SaveTree → Places
places_in_save s = s.place ∷ (places_in_names s.names ++ places_in_end s.«end»)

abbrev pub places_in_part : PartTree → Places
places_in_part (part.Input i) = places_in_input i
places_in_part (part.Provided p) = places_in_provided p
places_in_part (part.Connect c) = places_in_connect c
places_in_part (part.Save s) = places_in_save s

abbrev pub places_in_state : StateTree → Places
places_in_state s = s.place ∷ (places_in_list s.list ++ (places_in_end s.«end» ++ (flat_map places_in_part s.parts ++ places_in_closing s.closing)))

abbrev pub places_in_points : PointsTree → Places
places_in_points p = p.place ∷ (places_in_names p.names ++ places_in_end p.«end»)

abbrev pub places_in_empty : EmptyStateTree → Places
places_in_empty s = s.place ∷ (places_in_name s.name ++ (places_in_end s.«end» ++ places_in_closing s.closing))

-- ---- what stands in processes and composite states, from the places of its parts

abbrev pub partition_layer : AggregationPart-F Places Places Places Places → Places
partition_layer (inner.AggregationPart::Dcl dcl) = places_in_dcl dcl
partition_layer (inner.AggregationPart::Timer timer) = places_in_timer timer
partition_layer (inner.AggregationPart::Procedure procedure) = places_in_procedure procedure
partition_layer (inner.Empty state) = places_in_empty state
partition_layer (inner.AggregationPart::Composite composite) = composite

abbrev pub inner_layer : InnerTree-F Places Places Places Places → Places
inner_layer (inner.InnerTree::Dcl dcl) = places_in_dcl dcl
inner_layer (inner.InnerTree::Timer timer) = places_in_timer timer
inner_layer (inner.InnerTree::Procedure procedure) = places_in_procedure procedure
inner_layer (inner.Start start) = places_in_start start
inner_layer (inner.State state) = places_in_state state
inner_layer (inner.InnerTree::Composite composite) = composite
inner_layer (inner.Aggregation aggregation) = aggregation
inner_layer (inner.Connection connection) = places_in_connection connection

abbrev pub aggregation_layer : AggregationTree-F Places Places Places Places → Places
aggregation_layer a =
    a.place ∷ (places_in_name a.name ++ (places_in_end a.«end» ++ (flat_map places_in_points a.points ++ (flat_map (λ part. part) a.parts ++ places_in_closing a.closing))))

abbrev pub composite_layer : CompositeTree-F Places Places Places Places → Places
composite_layer c =
    c.place ∷ (places_in_name c.name ++ (places_in_end c.«end» ++ (flat_map places_in_points c.points ++ (flat_map (λ part. part) c.parts ++ places_in_closing c.closing))))

unfoldable pub places_in_partition : AggregationPart → Places
places_in_partition p = fold-AggregationPart Places Places Places Places partition_layer inner_layer aggregation_layer composite_layer p

unfoldable pub places_in_inner : InnerTree → Places
places_in_inner i = fold-InnerTree Places Places Places Places partition_layer inner_layer aggregation_layer composite_layer i

unfoldable pub places_in_aggregation : AggregationTree → Places
places_in_aggregation a = fold-AggregationTree Places Places Places Places partition_layer inner_layer aggregation_layer composite_layer a

unfoldable pub places_in_composite : CompositeTree → Places
places_in_composite c = fold-CompositeTree Places Places Places Places partition_layer inner_layer aggregation_layer composite_layer c

-- ---- what leads to processes

abbrev pub places_in_use : UseTree → Places
places_in_use u = u.place ∷ (places_in_hyphened u.«module» ++ places_in_end u.«end»)

abbrev pub places_in_sig : SigTree → Places
places_in_sig s = places_in_name s.name ++ flat_map places_in_hyphened s.sorts

abbrev pub places_in_signal : SignalTree → Places
places_in_signal s = s.place ∷ (flat_map places_in_sig s.signals ++ places_in_end s.«end»)

abbrev pub places_in_point : PointTree → Places
places_in_point (point.Env place) = place ∷ []
places_in_point (point.Name name) = places_in_name name

abbrev pub places_in_path : PathTree → Places
places_in_path p = p.place ∷ (places_in_point p.from ++ (places_in_point p.to ++ (places_in_names p.signals ++ places_in_end p.«end»)))

abbrev pub places_in_channel : ChannelTree → Places
places_in_channel c = c.place ∷ (places_in_name c.name ++ (flat_map places_in_path c.paths ++ places_in_closing c.closing))

abbrev pub places_in_route : RouteTree → Places
places_in_route r = r.place ∷ (places_in_name r.name ++ flat_map places_in_path r.paths)

abbrev pub places_in_link : LinkTree → Places
places_in_link l = l.place ∷ (places_in_names l.channels ++ (places_in_names l.routes ++ places_in_end l.«end»))

-- ---- processes

abbrev pub places_in_count : CountTree → Places
places_in_count c = c.place ∷ []

abbrev pub places_in_reference : ReferenceTree → Places
places_in_reference r = r.place ∷ (places_in_name r.name ++ (maybe places_in_count r.count ++ places_in_end r.«end»))

abbrev pub places_in_process : ProcessTree → Places
places_in_process p =
    p.place ∷ (places_in_name p.name ++ (maybe places_in_count p.count ++ (places_in_end p.«end» ++ (flat_map places_in_inner p.parts ++ places_in_closing p.closing))))

-- ---- blocks, systems and files

abbrev pub places_in_block_part : BlockPart → Places
places_in_block_part (member.Signal signal) = places_in_signal signal
places_in_block_part (member.Route route) = places_in_route route
places_in_block_part (member.Link link) = places_in_link link
places_in_block_part (member.Process process) = places_in_process process
places_in_block_part (member.Reference reference) = places_in_reference reference

abbrev pub places_in_block : BlockTree → Places
places_in_block b = b.place ∷ (places_in_name b.name ++ (places_in_end b.«end» ++ (flat_map places_in_block_part b.parts ++ places_in_closing b.closing)))

abbrev pub places_in_system_part : SystemPart → Places
places_in_system_part (piece.Use use') = places_in_use use'
places_in_system_part (piece.Signal signal) = places_in_signal signal
places_in_system_part (piece.Channel channel) = places_in_channel channel
places_in_system_part (piece.Procedure procedure) = places_in_procedure procedure
places_in_system_part (piece.Block block) = places_in_block block

abbrev pub places_in_system : SystemTree → Places
places_in_system s = s.place ∷ (places_in_name s.name ++ (places_in_end s.«end» ++ (flat_map places_in_system_part s.parts ++ places_in_closing s.closing)))

abbrev pub places_in_unit : UnitTree → Places
places_in_unit (unit.Use use') = places_in_use use'
places_in_unit (unit.System system) = places_in_system system
places_in_unit (unit.Process process) = places_in_process process

-- the places of the units of a file, or of all files
abbrev pub places_in_units : List UnitTree → Places
places_in_units units = flat_map places_in_unit units
