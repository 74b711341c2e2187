-- Trees that differ in the places of their tokens alone. Names are the same where their words are, whatever stands between the tokens
-- of a text; so blanks, ends of lines and comments (Z.101 clause 6.1) make no difference here.
use Rattle.std.specs.Prelude.{◌≡◌, ℕ, Bool, List, [], ◌∷◌, Option, Some, None, map}
use Rattle.og_base.specs.declared.Place.{Place}
use Rattle.og_base.specs.declared.Violation.{Violation}
use Rattle.og_lexer.specs.declared.Keyword.{Keyword}
use Rattle.og_lexer.specs.declared.Spanned.{Spanned}
use Rattle.og_lexer.specs.declared.Token.{Token}
use Rattle.og_ast.specs.declared.ground.Name.{Name}
use Rattle.og_ast.specs.declared.ground.HyphenedName.{HyphenedName}
use Rattle.og_ast.specs.declared.ground.TextTree.{TextTree}
use Rattle.og_ast.specs.declared.ground.EndTree.{EndTree}
use Rattle.og_ast.specs.declared.ground.ClosingTree.{ClosingTree}
use Rattle.og_ast.specs.declared.expression.ExprTree.{ExprTree}
use Rattle.og_ast.specs.declared.expression.ExprNode.{ExprNode, Number, Truth, Variable, Bracketed, Minus, Not, Binary, Choice, Sequence, Components}
use Rattle.og_ast.specs.declared.expression.Operator.{Operator}
use Rattle.og_ast.specs.declared.expression.RelationOperator.{RelationOperator}
use Rattle.og_ast.specs.declared.expression.ComponentTree.{ComponentTree}
use Rattle.og_ast.specs.declared.expression.VarTree.{VarTree}
use Rattle.og_ast.specs.declared.expression.SelectorTree.{SelectorTree}
use Rattle.og_ast.specs.declared.expression.SelectorKind.{Dot, Exclamation, Index}
use Rattle.og_ast.specs.declared.expression.FieldTree.{FieldTree}
use Rattle.og_ast.specs.declared.expression.FieldTree.TheVariants as field
use Rattle.og_ast.specs.declared.data.DclTree.{DclTree}
use Rattle.og_ast.specs.declared.data.ItemTree.{ItemTree}
use Rattle.og_ast.specs.declared.data.TimerTree.{TimerTree}
use Rattle.og_ast.specs.declared.data.FparTree.{FparTree}
use Rattle.og_ast.specs.declared.data.FormalTree.{FormalTree}
use Rattle.og_ast.specs.declared.data.ReturnsTree.{ReturnsTree}
use Rattle.og_ast.specs.declared.transition.AssignTree.{AssignTree}
use Rattle.og_ast.specs.declared.transition.AssignedTree.{AssignedTree}
use Rattle.og_ast.specs.declared.transition.AssignedTree.TheVariants as assigned
use Rattle.og_ast.specs.declared.transition.OutTree.{OutTree}
use Rattle.og_ast.specs.declared.transition.CallTree.{CallTree}
use Rattle.og_ast.specs.declared.transition.ArgTree.{ArgTree}
use Rattle.og_ast.specs.declared.transition.ArgTree.TheVariants as arg
use Rattle.og_ast.specs.declared.transition.QuestionTree.{QuestionTree}
use Rattle.og_ast.specs.declared.transition.QuestionTree.TheVariants as question
use Rattle.og_ast.specs.declared.transition.AnswerTree.{AnswerTree}
use Rattle.og_ast.specs.declared.transition.AnswerTree.TheVariants as answer
use Rattle.og_ast.specs.declared.transition.ConstTree.{ConstTree}
use Rattle.og_ast.specs.declared.transition.ConstTree.TheVariants as constant
use Rattle.og_ast.specs.declared.transition.TerminatorTree.{TerminatorTree}
use Rattle.og_ast.specs.declared.transition.TerminatorKind.{TerminatorKind}
use Rattle.og_ast.specs.declared.transition.TerminatorKind.TheVariants as kind
use Rattle.og_ast.specs.declared.transition.TransitionTree.{TransitionTree}
use Rattle.og_ast.specs.declared.transition.StepTree.{StepTree}
use Rattle.og_ast.specs.declared.transition.ActionTree.{ActionTree, Informal, Task, Output, Call, Decision}
use Rattle.og_ast.specs.declared.transition.DecisionTree.{DecisionTree, roll-DecisionTree}
use Rattle.og_ast.specs.declared.transition.BranchTree.{BranchTree, roll-BranchTree}
use Rattle.og_ast.specs.declared.transition.ElseTree.{ElseTree, roll-ElseTree}
use Rattle.og_ast.specs.declared.procedure.ConnectionTree.{ConnectionTree}
use Rattle.og_ast.specs.declared.procedure.ProcedureTree.{ProcedureTree}
use Rattle.og_ast.specs.declared.procedure.ProcedureBody.{ProcedureBody}
use Rattle.og_ast.specs.declared.procedure.ProcedureBody.TheVariants as body
use Rattle.og_ast.specs.declared.state.InnerTree.{InnerTree, Dcl, Timer, Procedure, Start, State, Composite, Aggregation, Connection}
use Rattle.og_ast.specs.declared.state.StartTree.{StartTree}
use Rattle.og_ast.specs.declared.state.StateTree.{StateTree}
use Rattle.og_ast.specs.declared.state.ListTree.{ListTree}
use Rattle.og_ast.specs.declared.state.ListTree.TheVariants as list
use Rattle.og_ast.specs.declared.state.PartTree.{PartTree}
use Rattle.og_ast.specs.declared.state.PartTree.TheVariants as part
use Rattle.og_ast.specs.declared.state.InputTree.{InputTree}
use Rattle.og_ast.specs.declared.state.InTree.{InTree}
use Rattle.og_ast.specs.declared.state.EnablingTree.{EnablingTree}
use Rattle.og_ast.specs.declared.state.ProvidedTree.{ProvidedTree}
use Rattle.og_ast.specs.declared.state.PriorityTree.{PriorityTree}
use Rattle.og_ast.specs.declared.state.ConnectTree.{ConnectTree}
use Rattle.og_ast.specs.declared.state.SaveTree.{SaveTree}
use Rattle.og_ast.specs.declared.state.CompositeTree.{CompositeTree}
use Rattle.og_ast.specs.declared.state.PointsTree.{PointsTree}
use Rattle.og_ast.specs.declared.state.AggregationTree.{AggregationTree}
use Rattle.og_ast.specs.declared.state.AggregationPart.{AggregationPart}
use Rattle.og_ast.specs.declared.state.AggregationPart as other
use Rattle.og_ast.specs.declared.state.EmptyStateTree.{EmptyStateTree}
use Rattle.og_ast.specs.declared.system.Unit.{Unit as UnitTree}
use Rattle.og_ast.specs.declared.system.Unit.TheVariants as unit
use Rattle.og_ast.specs.declared.system.UseTree.{UseTree}
use Rattle.og_ast.specs.declared.system.SystemTree.{SystemTree}
use Rattle.og_ast.specs.declared.system.SystemPart.{SystemPart}
use Rattle.og_ast.specs.declared.system.SystemPart.TheVariants as piece
use Rattle.og_ast.specs.declared.system.BlockTree.{BlockTree}
use Rattle.og_ast.specs.declared.system.BlockPart.{BlockPart}
use Rattle.og_ast.specs.declared.system.BlockPart.TheVariants as member
use Rattle.og_ast.specs.declared.system.SignalTree.{SignalTree}
use Rattle.og_ast.specs.declared.system.SigTree.{SigTree}
use Rattle.og_ast.specs.declared.system.ChannelTree.{ChannelTree}
use Rattle.og_ast.specs.declared.system.RouteTree.{RouteTree}
use Rattle.og_ast.specs.declared.system.PathTree.{PathTree}
use Rattle.og_ast.specs.declared.system.PointTree.{PointTree}
use Rattle.og_ast.specs.declared.system.PointTree.TheVariants as point
use Rattle.og_ast.specs.declared.system.LinkTree.{LinkTree}
use Rattle.og_ast.specs.declared.system.ProcessTree.{ProcessTree}
use Rattle.og_ast.specs.declared.system.ReferenceTree.{ReferenceTree}
use Rattle.og_ast.specs.declared.system.CountTree.{CountTree}
use Rattle.og_reading.specs.Sentences.{StandsAt}
use Rattle.og_parse_expr.specs.Reading.{variable}
use Rattle.og_parse_body.specs.Reading.{transition_of}

-- the tokens of a text, wherever they stand
abbrev pub words_of : List Spanned → List Token
words_of tokens = map (λ t. t.token) tokens

-- as many on both sides, and each like the one at the same place of the other list
abbrev pub Alike : {X : Type 0} → (X → X → Type 0) → List X → List X → Type 0
Alike Is [] [] = Unit {0}
Alike Is [] (y ∷ ys) = ⊥
Alike Is (x ∷ xs) [] = ⊥
Alike Is (x ∷ xs) (y ∷ ys) = Is x y × Alike Is xs ys

abbrev pub Maybe : {X : Type 0} → (X → X → Type 0) → Option X → Option X → Type 0
Maybe Is None None = Unit {0}
Maybe Is None (Some y) = ⊥
Maybe Is (Some x) None = ⊥
Maybe Is (Some x) (Some y) = Is x y

-- ---- names, texts and ends

abbrev pub OneName : Name → Name → Type 0
OneName a b = a.word ≡ b.word

abbrev pub OneHname : HyphenedName → HyphenedName → Type 0
OneHname a b = Alike OneName a.parts b.parts

abbrev pub OneText : TextTree → TextTree → Type 0
OneText a b = a.text ≡ b.text

abbrev pub OneEnd : EndTree → EndTree → Type 0
OneEnd a b = Maybe OneText a.comment b.comment

abbrev pub OneClosing : ClosingTree → ClosingTree → Type 0
OneClosing a b = Maybe OneName a.name b.name × OneEnd a.«end» b.«end»

-- ---- expressions

abbrev pub OneField : FieldTree → FieldTree → Type 0
OneField (field.Name a) (field.Name b) = OneName a b
OneField (field.Name a) (field.Keyword q w) = ⊥
OneField (field.Keyword p v) (field.Name b) = ⊥
OneField (field.Keyword p v) (field.Keyword q w) = v ≡ w

mutual
  pub data OneExpr : ExprTree → ExprTree → Type 0 where
    one_expr : (p f q g : Place) {m n : ExprNode} → OneNode m n → OneExpr (record { place = p; first = f; node = m }) (record { place = q; first = g; node = n })

  pub data OneNode : ExprNode → ExprNode → Type 0 where
    one_number : {m n : ℕ} → m ≡ n → OneNode (Number m) (Number n)
    one_truth : (b : Bool) → OneNode (Truth b) (Truth b)
    one_variable : {v w : VarTree} → OneVar v w → OneNode (Variable v) (Variable w)
    one_bracketed : {d e : ExprTree} → OneExpr d e → OneNode (Bracketed d) (Bracketed e)
    one_minus : {d e : ExprTree} → OneExpr d e → OneNode (Minus d) (Minus e)
    one_not : {d e : ExprTree} → OneExpr d e → OneNode (Not d) (Not e)
    one_binary : {o u : Operator} {a b d e : ExprTree} → o ≡ u → OneExpr a d → OneExpr b e → OneNode (Binary o a b) (Binary u d e)
    one_choice : {a b : Name} {d e : ExprTree} → OneName a b → OneExpr d e → OneNode (Choice a d) (Choice b e)
    one_sequence : {ds es : List ExprTree} → OneExprs ds es → OneNode (Sequence ds) (Sequence es)
    one_components : {bs cs : List ComponentTree} → OneComponents bs cs → OneNode (Components bs) (Components cs)

  pub data OneExprs : List ExprTree → List ExprTree → Type 0 where
    no_expr : OneExprs [] []
    more_exprs : {d e : ExprTree} {ds es : List ExprTree} → OneExpr d e → OneExprs ds es → OneExprs (d ∷ ds) (e ∷ es)

  pub data OneComponents : List ComponentTree → List ComponentTree → Type 0 where
    no_component : OneComponents [] []
    more_components : {b c : ComponentTree} {bs cs : List ComponentTree} → OneComponent b c → OneComponents bs cs → OneComponents (b ∷ bs) (c ∷ cs)

  pub data OneComponent : ComponentTree → ComponentTree → Type 0 where
    one_component : (a b : Name) {d e : ExprTree} → OneName a b → OneExpr d e → OneComponent (record { name = a; value = d }) (record { name = b; value = e })

  pub data OneVar : VarTree → VarTree → Type 0 where
    one_var : (a b : Name) {ss ts : List SelectorTree} → OneName a b → OneSelectors ss ts → OneVar (variable a ss) (variable b ts)

  pub data OneSelectors : List SelectorTree → List SelectorTree → Type 0 where
    no_selector : OneSelectors [] []
    more_selectors : {s t : SelectorTree} {ss ts : List SelectorTree} → OneSelector s t → OneSelectors ss ts → OneSelectors (s ∷ ss) (t ∷ ts)

  pub data OneSelector : SelectorTree → SelectorTree → Type 0 where
    one_dot : (p q : Place) (f g : FieldTree) → OneField f g → OneSelector (record { place = p; kind = Dot f }) (record { place = q; kind = Dot g })
    one_exclamation : (p q : Place) (f g : FieldTree) → OneField f g → OneSelector (record { place = p; kind = Exclamation f }) (record { place = q; kind = Exclamation g })
    one_index : (p q : Place) {d e : ExprTree} → OneExpr d e → OneSelector (record { place = p; kind = Index d }) (record { place = q; kind = Index e })

-- ---- declarations

abbrev pub OneItem : ItemTree → ItemTree → Type 0
OneItem a b = Alike OneName a.names b.names × OneHname a.sort b.sort × Maybe OneExpr a.initial b.initial

abbrev pub OneDcl : DclTree → DclTree → Type 0
OneDcl a b = Alike OneItem a.items b.items × OneEnd a.«end» b.«end»

abbrev pub OneTimer : TimerTree → TimerTree → Type 0
OneTimer a b = Alike OneName a.names b.names × OneEnd a.«end» b.«end»

abbrev pub OneFormal : FormalTree → FormalTree → Type 0
OneFormal a b = (a.passing ≡ b.passing) × Alike OneName a.names b.names × OneHname a.sort b.sort

abbrev pub OneFpar : FparTree → FparTree → Type 0
OneFpar a b = Alike OneFormal a.formals b.formals × OneEnd a.«end» b.«end»

abbrev pub OneReturns : ReturnsTree → ReturnsTree → Type 0
OneReturns a b = OneHname a.sort b.sort × OneEnd a.«end» b.«end»

-- ---- actions but decisions

abbrev pub OneArg : ArgTree → ArgTree → Type 0
OneArg (arg.Value d) (arg.Value e) = OneExpr d e
OneArg (arg.Value d) (arg.Text t) = ⊥
OneArg (arg.Text s) (arg.Value e) = ⊥
OneArg (arg.Text s) (arg.Text t) = OneText s t

abbrev pub OneCall : CallTree → CallTree → Type 0
OneCall a b = OneName a.procedure b.procedure × Maybe (Alike OneArg) a.args b.args

abbrev pub OneAssigned : AssignedTree → AssignedTree → Type 0
OneAssigned (assigned.Call p a) (assigned.Call q b) = OneCall a b
OneAssigned (assigned.Call p a) (assigned.Value e) = ⊥
OneAssigned (assigned.Value d) (assigned.Call q b) = ⊥
OneAssigned (assigned.Value d) (assigned.Value e) = OneExpr d e

abbrev pub OneAssign : AssignTree → AssignTree → Type 0
OneAssign a b = OneVar a.target b.target × OneAssigned a.value b.value

abbrev pub OneOut : OutTree → OutTree → Type 0
OneOut a b = OneName a.signal b.signal × Alike OneExpr a.values b.values

-- ---- questions and answers

pub data OneQuestion : QuestionTree → QuestionTree → Type 0 where
  one_value : {d e : ExprTree} → OneExpr d e → OneQuestion (question.Value d) (question.Value e)
  one_any : (p q : Place) → OneQuestion (question.Any p) (question.Any q)
  one_text : (s t : TextTree) → OneText s t → OneQuestion (question.Text s) (question.Text t)

pub data OneConst : ConstTree → ConstTree → Type 0 where
  const_number : (p q : Place) {m n : ℕ} → m ≡ n → OneConst (constant.Number p m) (constant.Number q n)
  const_negative : (p q : Place) {m n : ℕ} → m ≡ n → OneConst (constant.Negative p m) (constant.Negative q n)
  const_name : (a b : Name) → OneName a b → OneConst (constant.Name a) (constant.Name b)
  const_truth : (p q : Place) (b : Bool) → OneConst (constant.Truth p b) (constant.Truth q b)

pub data OneAnswer : AnswerTree → AnswerTree → Type 0 where
  answer_one : {a b : ConstTree} → OneConst a b → OneAnswer (answer.One a) (answer.One b)
  answer_range : {a b c d : ConstTree} → OneConst a b → OneConst c d → OneAnswer (answer.Range a c) (answer.Range b d)
  answer_relation : (p q : Place) {r s : RelationOperator} {a b : ConstTree} → r ≡ s → OneConst a b → OneAnswer (answer.Relation p r a) (answer.Relation q s b)

-- ---- transitions

pub data OneKind : TerminatorKind → TerminatorKind → Type 0 where
  kind_dash : (p q : Place) → OneKind (kind.Dash p) (kind.Dash q)
  kind_history : (p q : Place) → OneKind (kind.History p) (kind.History q)
  kind_next : (a b : Name) (v w : Option Name) → OneName a b → Maybe OneName v w → OneKind (kind.Next a v) (kind.Next b w)
  kind_join : (a b : Name) → OneName a b → OneKind (kind.Join a) (kind.Join b)
  kind_return : (d e : Option ExprTree) → Maybe OneExpr d e → OneKind (kind.Return d) (kind.Return e)
  kind_stop : OneKind kind.Stop kind.Stop

abbrev pub OneTerminator : TerminatorTree → TerminatorTree → Type 0
OneTerminator a b = Maybe OneName a.label b.label × OneKind a.kind b.kind × OneEnd a.«end» b.«end»

mutual
  pub data OneTransition : TransitionTree → TransitionTree → Type 0 where
    one_transition : {ss ts : List StepTree} (s t : Option TerminatorTree) → OneSteps ss ts → Maybe OneTerminator s t → OneTransition (transition_of ss s) (transition_of ts t)

  pub data OneSteps : List StepTree → List StepTree → Type 0 where
    no_step : OneSteps [] []
    more_steps : {s t : StepTree} {ss ts : List StepTree} → OneStep s t → OneSteps ss ts → OneSteps (s ∷ ss) (t ∷ ts)

  pub data OneStep : StepTree → StepTree → Type 0 where
    one_step : (p q : Place) (l m : Option Name) {a b : ActionTree} (d e : EndTree) → Maybe OneName l m → OneAction a b → OneEnd d e
        → OneStep (record { label = l; place = p; action = a; «end» = d }) (record { label = m; place = q; action = b; «end» = e })

  pub data OneAction : ActionTree → ActionTree → Type 0 where
    one_informal : (s t : TextTree) → OneText s t → OneAction (Informal s) (Informal t)
    one_task : (xs ys : List AssignTree) → Alike OneAssign xs ys → OneAction (Task xs) (Task ys)
    one_output : (xs ys : List OutTree) → Alike OneOut xs ys → OneAction (Output xs) (Output ys)
    one_call : (a b : CallTree) → OneCall a b → OneAction (Call a) (Call b)
    one_decision : {c d : DecisionTree} → OneDecision c d → OneAction (Decision c) (Decision d)

  pub data OneDecision : DecisionTree → DecisionTree → Type 0 where
    one_decided : {p q : QuestionTree} (d e : EndTree) {bs cs : List BranchTree} {n o : Option ElseTree} → OneQuestion p q → OneEnd d e → OneBranches bs cs → OneElse n o
        → OneDecision (roll-DecisionTree (record { question = p; «end» = d; branches = bs; otherwise = n })) (roll-DecisionTree (record { question = q; «end» = e; branches = cs; otherwise = o }))

  pub data OneBranches : List BranchTree → List BranchTree → Type 0 where
    no_branch : OneBranches [] []
    more_branches : {b c : BranchTree} {bs cs : List BranchTree} → OneBranch b c → OneBranches bs cs → OneBranches (b ∷ bs) (c ∷ cs)

  pub data OneBranch : BranchTree → BranchTree → Type 0 where
    one_branch : (p q : Place) (xs ys : List AnswerTree) {s t : TransitionTree} → Alike OneAnswer xs ys → OneTransition s t
        → OneBranch (roll-BranchTree (record { place = p; answers = xs; transition = s })) (roll-BranchTree (record { place = q; answers = ys; transition = t }))

  pub data OneElse : Option ElseTree → Option ElseTree → Type 0 where
    no_else : OneElse None None
    an_else : (p q : Place) {s t : TransitionTree} → OneTransition s t
        → OneElse (Some (roll-ElseTree (record { place = p; transition = s }))) (Some (roll-ElseTree (record { place = q; transition = t })))

-- ---- procedures

abbrev pub OneConnection : ConnectionTree → ConnectionTree → Type 0
OneConnection a b = OneName a.label b.label × OneTransition a.transition b.transition × OneEnd a.«end» b.«end»

pub data OneBody : ProcedureBody → ProcedureBody → Type 0 where
  body_external : (p q : Place) (d e : EndTree) → OneEnd d e → OneBody (body.External p d) (body.External q e)
  body_own : (ds es : List DclTree) (p q : Place) (d e : EndTree) {s t : TransitionTree} (xs ys : List ConnectionTree) (a b : ClosingTree) → Alike OneDcl ds es → OneEnd d e → OneTransition s t
      → Alike OneConnection xs ys → OneClosing a b → OneBody (body.Own ds p d s xs a) (body.Own es q e t ys b)

abbrev pub OneProcedure : ProcedureTree → ProcedureTree → Type 0
OneProcedure a b = OneName a.name b.name × OneEnd a.«end» b.«end» × Maybe OneFpar a.fpar b.fpar × Maybe OneReturns a.returns b.returns × OneBody a.body b.body

-- ---- states

abbrev pub OneStart : StartTree → StartTree → Type 0
OneStart a b = Maybe OneName a.name b.name × OneEnd a.«end» b.«end» × OneTransition a.transition b.transition

abbrev pub OneIn : InTree → InTree → Type 0
OneIn a b = OneName a.signal b.signal × Alike OneName a.variables b.variables

abbrev pub OneEnabling : EnablingTree → EnablingTree → Type 0
OneEnabling a b = OneExpr a.condition b.condition × OneEnd a.«end» b.«end»

abbrev pub OneInput : InputTree → InputTree → Type 0
OneInput a b = Alike OneIn a.inputs b.inputs × OneEnd a.«end» b.«end» × Maybe OneEnabling a.enabling b.enabling × OneTransition a.transition b.transition

abbrev pub OnePriority : PriorityTree → PriorityTree → Type 0
OnePriority a b = (a.number ≡ b.number) × OneEnd a.«end» b.«end»

abbrev pub OneProvided : ProvidedTree → ProvidedTree → Type 0
OneProvided a b = OneExpr a.condition b.condition × OneEnd a.«end» b.«end» × Maybe OnePriority a.priority b.priority × OneTransition a.transition b.transition

abbrev pub OneConnect : ConnectTree → ConnectTree → Type 0
OneConnect a b = Alike OneName a.names b.names × OneEnd a.«end» b.«end» × OneTransition a.transition b.transition

abbrev pub OneSave : SaveTree → SaveTree → Type 0
OneSave a b = Alike OneName a.names b.names × OneEnd a.«end» b.«end»

pub data OnePart : PartTree → PartTree → Type 0 where
  part_input : (a b : InputTree) → OneInput a b → OnePart (part.Input a) (part.Input b)
  part_provided : (a b : ProvidedTree) → OneProvided a b → OnePart (part.Provided a) (part.Provided b)
  part_connect : (a b : ConnectTree) → OneConnect a b → OnePart (part.Connect a) (part.Connect b)
  part_save : (a b : SaveTree) → OneSave a b → OnePart (part.Save a) (part.Save b)

pub data OneList : ListTree → ListTree → Type 0 where
  list_names : (xs ys : List Name) → Alike OneName xs ys → OneList (list.Names xs) (list.Names ys)
  list_all : (p q : Place) (xs ys : List Name) → Alike OneName xs ys → OneList (list.All p xs) (list.All q ys)

abbrev pub OneState : StateTree → StateTree → Type 0
OneState a b = OneList a.list b.list × OneEnd a.«end» b.«end» × Alike OnePart a.parts b.parts × OneClosing a.closing b.closing

abbrev pub OnePoints : PointsTree → PointsTree → Type 0
OnePoints a b = (a.out ≡ b.out) × Alike OneName a.names b.names × OneEnd a.«end» b.«end»

abbrev pub OneEmpty : EmptyStateTree → EmptyStateTree → Type 0
OneEmpty a b = OneName a.name b.name × OneEnd a.«end» b.«end» × OneClosing a.closing b.closing

mutual
  pub data OneInner : InnerTree → InnerTree → Type 0 where
    inner_dcl : (a b : DclTree) → OneDcl a b → OneInner (Dcl a) (Dcl b)
    inner_timer : (a b : TimerTree) → OneTimer a b → OneInner (Timer a) (Timer b)
    inner_procedure : (a b : ProcedureTree) → OneProcedure a b → OneInner (Procedure a) (Procedure b)
    inner_start : (a b : StartTree) → OneStart a b → OneInner (Start a) (Start b)
    inner_state : (a b : StateTree) → OneState a b → OneInner (State a) (State b)
    inner_composite : {a b : CompositeTree} → OneComposite a b → OneInner (Composite a) (Composite b)
    inner_aggregation : {a b : AggregationTree} → OneAggregation a b → OneInner (Aggregation a) (Aggregation b)
    inner_connection : (a b : ConnectionTree) → OneConnection a b → OneInner (Connection a) (Connection b)

  pub data OneInners : List InnerTree → List InnerTree → Type 0 where
    no_inner_part : OneInners [] []
    more_inners : {a b : InnerTree} {xs ys : List InnerTree} → OneInner a b → OneInners xs ys → OneInners (a ∷ xs) (b ∷ ys)

  pub data OneComposite : CompositeTree → CompositeTree → Type 0 where
    one_composite : (p q : Place) (m n : Name) (d e : EndTree) (gs hs : List PointsTree) {is js : List InnerTree} (a b : ClosingTree) → OneName m n → OneEnd d e → Alike OnePoints gs hs → OneInners is js
        → OneClosing a b → OneComposite (record { place = p; name = m; «end» = d; points = gs; parts = is; closing = a }) (record { place = q; name = n; «end» = e; points = hs; parts = js; closing = b })

  pub data OneAggregation : AggregationTree → AggregationTree → Type 0 where
    one_aggregation : (p q : Place) (m n : Name) (d e : EndTree) (gs hs : List PointsTree) {is js : List AggregationPart} (a b : ClosingTree) → OneName m n → OneEnd d e → Alike OnePoints gs hs
        → OnePartitions is js → OneClosing a b
        → OneAggregation (record { place = p; name = m; «end» = d; points = gs; parts = is; closing = a }) (record { place = q; name = n; «end» = e; points = hs; parts = js; closing = b })

  pub data OnePartitions : List AggregationPart → List AggregationPart → Type 0 where
    no_partition : OnePartitions [] []
    more_partitions : {a b : AggregationPart} {xs ys : List AggregationPart} → OnePartition a b → OnePartitions xs ys → OnePartitions (a ∷ xs) (b ∷ ys)

  pub data OnePartition : AggregationPart → AggregationPart → Type 0 where
    partition_dcl : (a b : DclTree) → OneDcl a b → OnePartition (other.Dcl a) (other.Dcl b)
    partition_timer : (a b : TimerTree) → OneTimer a b → OnePartition (other.Timer a) (other.Timer b)
    partition_procedure : (a b : ProcedureTree) → OneProcedure a b → OnePartition (other.Procedure a) (other.Procedure b)
    partition_empty : (a b : EmptyStateTree) → OneEmpty a b → OnePartition (other.Empty a) (other.Empty b)
    partition_composite : {a b : CompositeTree} → OneComposite a b → OnePartition (other.Composite a) (other.Composite b)

-- ---- systems

abbrev pub OneUse : UseTree → UseTree → Type 0
OneUse a b = OneHname a.«module» b.«module» × OneEnd a.«end» b.«end»

abbrev pub OneSig : SigTree → SigTree → Type 0
OneSig a b = OneName a.name b.name × Alike OneHname a.sorts b.sorts

abbrev pub OneSignal : SignalTree → SignalTree → Type 0
OneSignal a b = Alike OneSig a.signals b.signals × OneEnd a.«end» b.«end»

pub data OnePoint : PointTree → PointTree → Type 0 where
  point_env : (p q : Place) → OnePoint (point.Env p) (point.Env q)
  point_name : (a b : Name) → OneName a b → OnePoint (point.Name a) (point.Name b)

abbrev pub OnePath : PathTree → PathTree → Type 0
OnePath a b = OnePoint a.from b.from × OnePoint a.to b.to × Alike OneName a.signals b.signals × OneEnd a.«end» b.«end»

abbrev pub OneChannel : ChannelTree → ChannelTree → Type 0
OneChannel a b = OneName a.name b.name × Alike OnePath a.paths b.paths × OneClosing a.closing b.closing

abbrev pub OneRoute : RouteTree → RouteTree → Type 0
OneRoute a b = OneName a.name b.name × Alike OnePath a.paths b.paths

abbrev pub OneLink : LinkTree → LinkTree → Type 0
OneLink a b = Alike OneName a.channels b.channels × Alike OneName a.routes b.routes × OneEnd a.«end» b.«end»

abbrev pub OneCount : CountTree → CountTree → Type 0
OneCount a b = (a.initial ≡ b.initial) × (a.most ≡ b.most)

abbrev pub OneReference : ReferenceTree → ReferenceTree → Type 0
OneReference a b = OneName a.name b.name × Maybe OneCount a.count b.count × OneEnd a.«end» b.«end»

abbrev pub OneProcess : ProcessTree → ProcessTree → Type 0
OneProcess a b = OneName a.name b.name × Maybe OneCount a.count b.count × OneEnd a.«end» b.«end» × Alike OneInner a.parts b.parts × OneClosing a.closing b.closing

pub data OneBlockPart : BlockPart → BlockPart → Type 0 where
  block_signal : (a b : SignalTree) → OneSignal a b → OneBlockPart (member.Signal a) (member.Signal b)
  block_route : (a b : RouteTree) → OneRoute a b → OneBlockPart (member.Route a) (member.Route b)
  block_link : (a b : LinkTree) → OneLink a b → OneBlockPart (member.Link a) (member.Link b)
  block_process : (a b : ProcessTree) → OneProcess a b → OneBlockPart (member.Process a) (member.Process b)
  block_reference : (a b : ReferenceTree) → OneReference a b → OneBlockPart (member.Reference a) (member.Reference b)

abbrev pub OneBlock : BlockTree → BlockTree → Type 0
OneBlock a b = OneName a.name b.name × OneEnd a.«end» b.«end» × Alike OneBlockPart a.parts b.parts × OneClosing a.closing b.closing

pub data OneSystemPart : SystemPart → SystemPart → Type 0 where
  system_use : (a b : UseTree) → OneUse a b → OneSystemPart (piece.Use a) (piece.Use b)
  system_signal : (a b : SignalTree) → OneSignal a b → OneSystemPart (piece.Signal a) (piece.Signal b)
  system_channel : (a b : ChannelTree) → OneChannel a b → OneSystemPart (piece.Channel a) (piece.Channel b)
  system_procedure : (a b : ProcedureTree) → OneProcedure a b → OneSystemPart (piece.Procedure a) (piece.Procedure b)
  system_block : (a b : BlockTree) → OneBlock a b → OneSystemPart (piece.Block a) (piece.Block b)

abbrev pub OneSystem : SystemTree → SystemTree → Type 0
OneSystem a b = OneName a.name b.name × OneEnd a.«end» b.«end» × Alike OneSystemPart a.parts b.parts × OneClosing a.closing b.closing

pub data OneUnit : UnitTree → UnitTree → Type 0 where
  unit_use : (a b : UseTree) → OneUse a b → OneUnit (unit.Use a) (unit.Use b)
  unit_system : (a b : SystemTree) → OneSystem a b → OneUnit (unit.System a) (unit.System b)
  unit_process : (a b : ProcessTree) → OneProcess a b → OneUnit (unit.Process a) (unit.Process b)

-- units of one file, but for the places of their tokens
abbrev pub AreAlike : List UnitTree → List UnitTree → Type 0
AreAlike = Alike OneUnit

-- two violations of two files stand at the token of one number
abbrev pub StandsAtOne : List Spanned → Violation → List Spanned → Violation → Type 0
StandsAtOne tokens v others w = (number : ℕ) × StandsAt tokens number v × StandsAt others number w
