-- Declarations, actions, transitions and procedures as trees of their derivations, by the parts of the table of SDL/PR. The number
-- that some take bounds how many expressions, decisions and the like stand one inside the other.
use Rattle.std.specs.Prelude.{ℕ, zero, suc, Bool, true, false, List, [], ◌∷◌, ◌++◌, Option, Some, None, if◌then◌else◌, ◌==◌}
use Rattle.og_base.specs.declared.Place.{Place}
use Rattle.og_ast.specs.declared.ground.Name.{Name}
use Rattle.og_ast.specs.declared.ground.HyphenedName.{HyphenedName}
use Rattle.og_ast.specs.declared.ground.TextTree.{TextTree}
use Rattle.og_ast.specs.declared.ground.EndTree.{EndTree}
use Rattle.og_ast.specs.declared.ground.ClosingTree.{ClosingTree}
use Rattle.og_ast.specs.declared.expression.ExprTree.{ExprTree}
use Rattle.og_ast.specs.declared.expression.VarTree.{VarTree}
use Rattle.og_ast.specs.declared.data.DclTree.{DclTree}
use Rattle.og_ast.specs.declared.data.ItemTree.{ItemTree}
use Rattle.og_ast.specs.declared.data.TimerTree.{TimerTree}
use Rattle.og_ast.specs.declared.data.FparTree.{FparTree}
use Rattle.og_ast.specs.declared.data.FormalTree.{FormalTree}
use Rattle.og_ast.specs.declared.data.Passing.{Passing}
use Rattle.og_ast.specs.declared.data.Passing.TheVariants.{Unsaid, In, InOut}
use Rattle.og_ast.specs.declared.data.ReturnsTree.{ReturnsTree}
use Rattle.og_ast.specs.declared.transition.AssignTree.{AssignTree}
use Rattle.og_ast.specs.declared.transition.AssignedTree.{AssignedTree}
use Rattle.og_ast.specs.declared.transition.AssignedTree.TheVariants as assigned
use Rattle.og_ast.specs.declared.transition.OutTree.{OutTree}
use Rattle.og_ast.specs.declared.transition.CallTree.{CallTree}
use Rattle.og_ast.specs.declared.transition.ArgTree.{ArgTree}
use Rattle.og_ast.specs.declared.transition.ArgTree.TheVariants as arg
use Rattle.og_ast.specs.declared.transition.QuestionTree.{QuestionTree}
use Rattle.og_ast.specs.declared.transition.QuestionTree.TheVariants as question
use Rattle.og_ast.specs.declared.transition.AnswerTree.{AnswerTree}
use Rattle.og_ast.specs.declared.transition.AnswerTree.TheVariants as answer
use Rattle.og_ast.specs.declared.transition.ConstTree.{ConstTree}
use Rattle.og_ast.specs.declared.transition.ConstTree.TheVariants as constant
use Rattle.og_ast.specs.declared.transition.TerminatorTree.{TerminatorTree}
use Rattle.og_ast.specs.declared.transition.TerminatorKind.{TerminatorKind}
use Rattle.og_ast.specs.declared.transition.TerminatorKind.TheVariants as kind
use Rattle.og_ast.specs.declared.transition.TransitionTree.{TransitionTree, roll-TransitionTree}
use Rattle.og_ast.specs.declared.transition.StepTree.{StepTree}
use Rattle.og_ast.specs.declared.transition.ActionTree.{ActionTree, Informal, Task, Output, Call, Decision}
use Rattle.og_ast.specs.declared.transition.DecisionTree.{DecisionTree, roll-DecisionTree}
use Rattle.og_ast.specs.declared.transition.BranchTree.{BranchTree, roll-BranchTree}
use Rattle.og_ast.specs.declared.transition.ElseTree.{ElseTree, roll-ElseTree}
use Rattle.og_ast.specs.declared.procedure.ConnectionTree.{ConnectionTree}
use Rattle.og_ast.specs.declared.procedure.ProcedureTree.{ProcedureTree}
use Rattle.og_ast.specs.declared.procedure.ProcedureBody.{ProcedureBody}
use Rattle.og_ast.specs.declared.procedure.ProcedureBody.TheVariants as body
use Rattle.og_reading.specs.Reading.{Rest, Take, behind, after, choice_in, goes_on, place_in, name_in, number_in, text_in, maybe, onto, more_of, list_at, list_in_brackets, list_or_none}
use Rattle.og_parse_expr.specs.Reading.{expr_at, var_at, relation_sign_at}
use Rattle.og_parse_body.specs.declared.transition.StepText.{StepText}
use Rattle.og_parse_body.specs.declared.transition.StepText.TheVariants as text

-- ---- names and ends

abbrev pub name_at : Take Name
name_at rest = (name_in rest, behind rest)

unfoldable pub hname_at : Take HyphenedName
hname_at rest = let parts = list_at name_at rest in (record { parts = parts.0 }, parts.1)

unfoldable pub comment_at : Take TextTree
comment_at rest = let start = behind (after rest) in (text_in start, behind start)

unfoldable pub end_at : Take EndTree
end_at rest = let c = maybe comment_at (after rest) in (record { place = place_in c.1; comment = c.0 }, behind c.1)

unfoldable pub own_name_at : Take Name
own_name_at rest = name_at (after rest)

-- behind the END keyword at this place
unfoldable pub closing_at : Place → Take ClosingTree
closing_at place rest =
    let name = maybe own_name_at (after rest) in
    let e = end_at name.1 in
    (record { place = place; name = name.0; «end» = e.0 }, e.1)

-- ---- declarations

unfoldable pub initial_at : ℕ → Take ExprTree
initial_at n rest = expr_at n (behind (after rest))

unfoldable pub declared_at : ℕ → Take ItemTree
declared_at n rest =
    let names = list_at name_at (after rest) in
    let sort = hname_at names.1 in
    let initial = maybe (initial_at n) sort.1 in
    (record { names = names.0; sort = sort.0; initial = initial.0 }, initial.1)

unfoldable pub dcl_at : ℕ → Take DclTree
dcl_at n rest =
    let start = after rest in
    let items = list_at (declared_at n) (behind start) in
    let e = end_at items.1 in
    (record { place = place_in start; items = items.0; «end» = e.0 }, e.1)

unfoldable pub timer_at : Take TimerTree
timer_at rest =
    let start = after rest in
    let names = list_at name_at (behind start) in
    let e = end_at names.1 in
    (record { place = place_in start; names = names.0; «end» = e.0 }, e.1)

-- ---- parameters

-- behind IN
unfoldable pub and_out_at : Take Passing
and_out_at rest = if goes_on rest then (InOut, behind (behind (after (after rest)))) else (In, after rest)

unfoldable pub passing_at : Take Passing
passing_at rest = if goes_on rest then and_out_at (behind (after (after rest))) else (Unsaid, after rest)

unfoldable pub formal_at : Take FormalTree
formal_at rest =
    let passing = passing_at (after rest) in
    let names = list_at name_at passing.1 in
    let sort = hname_at names.1 in
    (record { passing = passing.0; names = names.0; sort = sort.0 }, sort.1)

unfoldable pub fpar_at : Take FparTree
fpar_at rest =
    let start = after rest in
    let formals = list_at formal_at (behind start) in
    let e = end_at formals.1 in
    (record { place = place_in start; formals = formals.0; «end» = e.0 }, e.1)

unfoldable pub returns_at : Take ReturnsTree
returns_at rest =
    let start = after rest in
    let sort = hname_at (behind start) in
    let e = end_at sort.1 in
    (record { place = place_in start; sort = sort.0; «end» = e.0 }, e.1)

-- ---- assignments, outputs and calls

unfoldable pub argument_at : ℕ → Take ArgTree
argument_at n rest =
    let start = after rest in
    if choice_in rest == 0 then (let e = expr_at n start in (arg.Value e.0, e.1)) else (arg.Text (text_in start), behind start)

unfoldable pub args_at : ℕ → Take (List ArgTree)
args_at n rest = let args = list_or_none (argument_at n) (behind (after rest)) in (args.0, behind args.1)

unfoldable pub called_at : ℕ → Take CallTree
called_at n rest =
    let start = after rest in
    let args = maybe (args_at n) (behind start) in
    (record { procedure = name_in start; args = args.0 }, args.1)

unfoldable pub assigned_at : ℕ → Take AssignedTree
assigned_at n rest =
    let start = after rest in
    if choice_in rest == 0 then (let c = called_at n (behind start) in (assigned.Call (place_in start) c.0, c.1)) else (let e = expr_at n start in (assigned.Value e.0, e.1))

unfoldable pub assign_at : ℕ → Take AssignTree
assign_at n rest =
    let target = var_at n (after rest) in
    let value = assigned_at n (behind target.1) in
    (record { target = target.0; value = value.0 }, value.1)

unfoldable pub out_at : ℕ → Take OutTree
out_at n rest =
    let start = after rest in
    let values = list_in_brackets (expr_at n) (behind start) in
    (record { signal = name_in start; values = values.0 }, values.1)

-- ---- questions and answers

unfoldable pub question_at : ℕ → Take QuestionTree
question_at n rest =
    let start = after rest in
    if choice_in rest == 0 then (let e = expr_at n start in (question.Value e.0, e.1))
    else (if choice_in rest == 1 then (question.Any (place_in start), behind start)
    else (question.Text (text_in start), behind start))

unfoldable pub constant_at : Take ConstTree
constant_at rest =
    let start = after rest in
    if choice_in rest == 0 then (constant.Negative (place_in start) (number_in (behind start)), behind (behind start))
    else (if choice_in rest == 1 then (constant.Number (place_in start) (number_in start), behind start)
    else (if choice_in rest == 2 then (constant.Name (name_in start), behind start)
    else (if choice_in rest == 3 then (constant.Truth (place_in start) true, behind start)
    else (constant.Truth (place_in start) false, behind start))))

-- up to this constant, or it alone
unfoldable pub upto_at : ConstTree → Take AnswerTree
upto_at low rest = if goes_on rest then (let high = constant_at (behind (after (after rest))) in (answer.Range low high.0, high.1)) else (answer.One low, after rest)

unfoldable pub answer_at : Take AnswerTree
answer_at rest =
    let start = after rest in
    if choice_in rest == 0 then (let c = constant_at start in upto_at c.0 c.1)
    else (let r = relation_sign_at start in let c = constant_at r.1 in (answer.Relation r.0.place r.0.relation c.0, c.1))

-- ---- terminators

unfoldable pub label_at : Take Name
label_at rest = let start = after rest in (name_in start, behind (behind start))

-- behind the `-` at this place
unfoldable pub dash_at : Place → Take TerminatorKind
dash_at place rest = if goes_on rest then (kind.History place, behind (after (after rest))) else (kind.Dash place, after rest)

unfoldable pub via_at : Take Name
via_at rest = name_at (behind (after rest))

unfoldable pub target_at : Take TerminatorKind
target_at rest =
    let start = after rest in
    if choice_in rest == 0 then dash_at (place_in start) (behind start)
    else (let via = maybe via_at (behind start) in (kind.Next (name_in start) via.0, via.1))

unfoldable pub result_at : ℕ → Take ExprTree
result_at n rest = expr_at n (after rest)

-- the same, with a place
abbrev pub placed : {X : Type 0} → Place → Take X → Take (Place × X)
placed place p rest = let x = p rest in ((place, x.0), x.1)

unfoldable pub kind_at : ℕ → Take (Place × TerminatorKind)
kind_at n rest =
    let start = after rest in
    let place = place_in start in
    if choice_in rest == 0 then placed place target_at (behind start)
    else (if choice_in rest == 1 then ((place, kind.Join (name_in (behind start))), behind (behind start))
    else (if choice_in rest == 2 then (let result = maybe (result_at n) (behind start) in ((place, kind.Return result.0), result.1))
    else ((place, kind.Stop), behind start)))

-- a terminator with its end, behind its label
unfoldable pub terminator_at : ℕ → Option Name → Take TerminatorTree
terminator_at n label rest =
    let k = kind_at n rest in
    let e = end_at k.1 in
    (record { label = label; place = k.0.0; kind = k.0.1; «end» = e.0 }, e.1)

-- ---- transitions

abbrev pub transition_of : List StepTree → Option TerminatorTree → TransitionTree
transition_of steps terminator = roll-TransitionTree (record { steps = steps; terminator = terminator })

-- the steps so far, and the terminator where it was met
abbrev pub SoFar : Type 0
SoFar = List StepTree × Option TerminatorTree

-- with one step more, or with the terminator
abbrev pub with_step : SoFar → StepText → SoFar
with_step t (text.Step s) = (t.0 ++ s ∷ [], t.1)
with_step t (text.Terminator e) = (t.0, Some e)

-- what stands behind TASK
unfoldable pub task_at : ℕ → Take ActionTree
task_at n rest =
    let start = after rest in
    if choice_in rest == 0 then (Informal (text_in start), behind start) else (let xs = list_at (assign_at n) start in (Task xs.0, xs.1))

unfoldable pub branch_at : Take TransitionTree → Take BranchTree
branch_at transition rest =
    let start = after rest in
    let answers = list_at answer_at (behind start) in
    let t = transition (behind (behind answers.1)) in
    (roll-BranchTree (record { place = place_in start; answers = answers.0; transition = t.0 }), t.1)

unfoldable pub otherwise_at : Take TransitionTree → Take ElseTree
otherwise_at transition rest =
    let start = after rest in
    let t = transition (behind (behind start)) in
    (roll-ElseTree (record { place = place_in start; transition = t.0 }), t.1)

-- behind DECISION
unfoldable pub decision_at : ℕ → Take TransitionTree → Take DecisionTree
decision_at n transition rest =
    let q = question_at n (after rest) in
    let e = end_at q.1 in
    let branches = more_of (branch_at transition) [] e.1 in
    let otherwise = maybe (otherwise_at transition) branches.1 in
    (roll-DecisionTree (record { question = q.0; «end» = e.0; branches = branches.0; otherwise = otherwise.0 }), behind otherwise.1)

unfoldable pub keyed_at : ℕ → Take TransitionTree → Take (Place × ActionTree)
keyed_at n transition rest =
    let start = after rest in
    let place = place_in start in
    if choice_in rest == 0 then placed place (task_at n) (behind start)
    else (if choice_in rest == 1 then (let xs = list_at (out_at n) (behind start) in ((place, Output xs.0), xs.1))
    else (if choice_in rest == 2 then (let call = called_at n (behind start) in ((place, Call call.0), call.1))
    else (let d = decision_at n transition (behind start) in ((place, Decision d.0), d.1))))

-- an action with its end, behind its label
unfoldable pub action_at : ℕ → Take TransitionTree → Option Name → Take StepTree
action_at n transition label rest =
    let a = keyed_at n transition rest in
    let e = end_at a.1 in
    (record { label = label; place = a.0.0; action = a.0.1; «end» = e.0 }, e.1)

-- the step behind its label, or its terminator, behind which nothing is read to see that no step follows
unfoldable pub unlabelled_at : ℕ → Take TransitionTree → Option Name → Take StepText
unlabelled_at n transition label rest =
    let start = after rest in
    if choice_in rest == 0 then (let s = action_at n transition label start in (text.Step s.0, s.1)) else (let t = terminator_at n label start in (text.Terminator t.0, after t.1))

unfoldable pub step_at : ℕ → Take TransitionTree → Take StepText
step_at n transition rest =
    let start = after rest in
    if choice_in rest == 0 then (let l = label_at start in unlabelled_at n transition (Some l.0) l.1) else unlabelled_at n transition None start

-- a step onto those before
unfoldable pub onto_step : ℕ → Take TransitionTree → SoFar → Take SoFar
onto_step n transition t rest = let s = step_at n transition rest in (with_step t s.0, s.1)

unfoldable pub transition_by : ℕ → Take TransitionTree → Take TransitionTree
transition_by n transition rest = let t = onto (onto_step n transition) ([], None) (after rest) in (transition_of t.0.0 t.0.1, t.1)

unfoldable pub transition_at : ℕ → Take TransitionTree
transition_at zero rest = (transition_of [] None, rest)
transition_at (suc n) rest = transition_by n (transition_at n) rest

-- ---- connections and procedures

unfoldable pub connection_at : ℕ → Take ConnectionTree
connection_at n rest =
    let start = after rest in
    let t = transition_at n (behind (behind (behind start))) in
    let e = end_at (behind t.1) in
    (record { place = place_in start; label = name_in (behind start); transition = t.0; «end» = e.0 }, e.1)

-- the procedure's own body, from its declarations on
unfoldable pub own_body_at : ℕ → Take ProcedureBody
own_body_at n rest =
    let dcls = more_of (dcl_at n) [] rest in
    let e = end_at (behind dcls.1) in
    let t = transition_at n e.1 in
    let connections = more_of (connection_at n) [] t.1 in
    let c = closing_at (place_in connections.1) (behind connections.1) in
    (body.Own dcls.0 (place_in dcls.1) e.0 t.0 connections.0 c.0, c.1)

unfoldable pub body_at : ℕ → Take ProcedureBody
body_at n rest =
    let start = after rest in
    if choice_in rest == 0 then (let e = end_at (behind start) in (body.External (place_in start) e.0, e.1)) else own_body_at n start

unfoldable pub procedure_at : ℕ → Take ProcedureTree
procedure_at n rest =
    let start = after rest in
    let e = end_at (behind (behind start)) in
    let fpar = maybe fpar_at e.1 in
    let returns = maybe returns_at fpar.1 in
    let b = body_at n returns.1 in
    (record { place = place_in start; name = name_in (behind start); «end» = e.0; fpar = fpar.0; returns = returns.0; body = b.0 }, b.1)
