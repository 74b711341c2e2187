-- The places that declarations, transitions and procedures keep are those of their tokens.
use Rattle.std.proofs.Common.{true, false, List, [], ◌∷◌, Option}
use Rattle.std.specs.List.{flat_map}
use Rattle.og_base.specs.declared.Place.{Place}
use Rattle.og_lexer.specs.declared.Keyword.{Keyword}
use Rattle.og_lexer.specs.declared.Keyword.TheVariants as word
use Rattle.og_lexer.specs.declared.Mark.TheVariants as mark
use Rattle.og_lexer.specs.declared.Spanned.{Spanned}
use Rattle.og_ast.specs.declared.ground.Name.{Name}
use Rattle.og_ast.specs.declared.ground.HyphenedName.{HyphenedName}
use Rattle.og_ast.specs.declared.ground.TextTree.{TextTree}
use Rattle.og_ast.specs.declared.ground.EndTree.{EndTree}
use Rattle.og_ast.specs.declared.ground.ClosingTree.{ClosingTree}
use Rattle.og_ast.specs.declared.expression.ExprTree.{ExprTree}
use Rattle.og_ast.specs.declared.data.DclTree.{DclTree}
use Rattle.og_ast.specs.declared.data.ItemTree.{ItemTree}
use Rattle.og_ast.specs.declared.data.TimerTree.{TimerTree}
use Rattle.og_ast.specs.declared.data.FparTree.{FparTree}
use Rattle.og_ast.specs.declared.data.FormalTree.{FormalTree}
use Rattle.og_ast.specs.declared.data.Passing.{Passing}
use Rattle.og_ast.specs.declared.data.Passing.TheVariants.{Unsaid, In, InOut}
use Rattle.og_ast.specs.declared.data.ReturnsTree.{ReturnsTree}
use Rattle.og_ast.specs.declared.transition.AssignTree.{AssignTree}
use Rattle.og_ast.specs.declared.transition.AssignedTree.{AssignedTree}
use Rattle.og_ast.specs.declared.transition.AssignedTree.TheVariants as assigned
use Rattle.og_ast.specs.declared.transition.OutTree.{OutTree}
use Rattle.og_ast.specs.declared.transition.CallTree.{CallTree}
use Rattle.og_ast.specs.declared.transition.ArgTree.{ArgTree}
use Rattle.og_ast.specs.declared.transition.ArgTree.TheVariants as arg
use Rattle.og_ast.specs.declared.transition.QuestionTree.{QuestionTree}
use Rattle.og_ast.specs.declared.transition.QuestionTree.TheVariants as question
use Rattle.og_ast.specs.declared.transition.AnswerTree.{AnswerTree}
use Rattle.og_ast.specs.declared.transition.AnswerTree.TheVariants as answer
use Rattle.og_ast.specs.declared.transition.ConstTree.{ConstTree}
use Rattle.og_ast.specs.declared.transition.ConstTree.TheVariants as constant
use Rattle.og_ast.specs.declared.transition.TerminatorTree.{TerminatorTree}
use Rattle.og_ast.specs.declared.transition.TerminatorKind.{TerminatorKind}
use Rattle.og_ast.specs.declared.transition.TerminatorKind.TheVariants as kind
use Rattle.og_ast.specs.declared.transition.TransitionTree.{TransitionTree}
use Rattle.og_ast.specs.declared.transition.StepTree.{StepTree}
use Rattle.og_ast.specs.declared.transition.ActionTree.{ActionTree}
use Rattle.og_ast.specs.declared.transition.DecisionTree.{DecisionTree}
use Rattle.og_ast.specs.declared.transition.BranchTree.{BranchTree}
use Rattle.og_ast.specs.declared.transition.ElseTree.{ElseTree}
use Rattle.og_ast.specs.declared.procedure.ConnectionTree.{ConnectionTree}
use Rattle.og_ast.specs.declared.procedure.ProcedureTree.{ProcedureTree}
use Rattle.og_ast.specs.declared.procedure.ProcedureBody.{ProcedureBody}
use Rattle.og_ast.specs.declared.procedure.ProcedureBody.TheVariants as body
use Rattle.og_places.specs.Contents.{maybe, places_in_name, places_in_hyphened, places_in_text, places_in_end, places_in_closing, places_in_expr, places_in_item, places_in_dcl, places_in_timer, places_in_formal, places_in_fpar, places_in_returns, places_in_arg, places_in_args, places_in_call, places_in_assigned, places_in_assign, places_in_out, places_in_question, places_in_const, places_in_answer, places_in_kind, places_in_terminator, places_in_action, places_in_branch, places_in_decision, places_in_else, places_in_step, places_in_transition, places_in_connection, places_in_body, places_in_procedure}
use Rattle.og_places.proofs.Opens.{of-Informal, of-Task, of-Output, of-Call, of-Decision, of-way, of-other, of-choice, of-step, of-steps}
use Rattle.og_reading.specs.Fronts.{Named, Quoted, Word, Passed, ◌▸◌}
use Rattle.og_parse_expr.specs.Grammar.{IsExpr}
use Rattle.og_parse_body.specs.Grammar.{IsHname, IsEnd, IsItem, IsDcl, IsTimer, IsPassing, IsFormal, IsFpar, IsReturns, IsArg, AreArgs, IsCalled, IsAssigned, IsAssign, IsOut, IsQuestion, IsConst, IsAnswer, IsLabel, IsKind, NoStep, IsTerminator, IsTransition, transition, AreSteps, no_step, more_steps, IsStep, step, IsAction, informal, assignments, outputs, called, decided, IsDecision, decision, AreBranches, no_branch, more_branches, IsBranch, branch, IsOtherwise, no_else, an_else, IsConnection, IsBody, IsProcedure}
use Rattle.og_parse_state.specs.Grammar.{IsClosed}
use Rattle.og_parse.proofs.PlacesKept.{AreIn, Kept, Keeps, followed, as_places, keeps_none, token_in, passed_in, past, reserved, sign, named, quoted, numeral, passed_word, passed, digits, no_text, both, before, perhaps, each_of, list_by, list_of, list_or_none, bracketed, names_of}
use Rattle.og_parse.proofs.PlacesOfExpressions.{relation_kept, var_kept, expr_kept}

module _ (P : Place → Type 0) where
  -- ---- names and ends

  pub hname_kept : (h : HyphenedName) → Keeps P (IsHname h) (places_in_hyphened h)
  hname_kept h = list_by mark.Minus Named places_in_name (λ name. named name) h.parts

  comment_kept : (t : TextTree) → Keeps P (Word word.Comment ▸ Quoted t) (places_in_text t)
  comment_kept t = both (passed_word word.Comment) (quoted t)

  pub end_kept : (e : EndTree) → Keeps P (IsEnd e) (places_in_end e)
  end_kept e = both (perhaps (λ t. Word word.Comment ▸ Quoted t) places_in_text comment_kept e.comment) (sign mark.Semicolon e.place)

  pub closed_kept : (w : Keyword) (c : ClosingTree) → Keeps P (IsClosed w c) (places_in_closing c)
  closed_kept w c = both (reserved w c.place) (both (perhaps Named places_in_name (λ name. named name) c.name) (end_kept c.«end»))

  -- ---- declarations

  initial_kept : (e : ExprTree) → Keeps P (Passed mark.Assign ▸ IsExpr e) (places_in_expr e)
  initial_kept e = both (passed mark.Assign) (expr_kept P e)

  item_kept : (i : ItemTree) → Keeps P (IsItem i) (places_in_item i)
  item_kept i = both (names_of i.names) (both (hname_kept i.sort) (perhaps (λ e. Passed mark.Assign ▸ IsExpr e) places_in_expr initial_kept i.initial))

  pub dcl_kept : (d : DclTree) → Keeps P (IsDcl d) (places_in_dcl d)
  dcl_kept d = both (reserved word.Dcl d.place) (both (list_of IsItem places_in_item item_kept d.items) (end_kept d.«end»))

  pub timer_kept : (t : TimerTree) → Keeps P (IsTimer t) (places_in_timer t)
  timer_kept t = both (reserved word.Timer t.place) (both (names_of t.names) (end_kept t.«end»))

  passing_kept : (p : Passing) → Keeps P (IsPassing p) []
  passing_kept Unsaid = no_text
  passing_kept In = passed_word word.In
  passing_kept InOut = both (passed_word word.In) (both (passed mark.Solidus) (passed_word word.Out))

  formal_kept : (f : FormalTree) → Keeps P (IsFormal f) (places_in_formal f)
  formal_kept f = both (passing_kept f.passing) (both (names_of f.names) (hname_kept f.sort))

  fpar_kept : (f : FparTree) → Keeps P (IsFpar f) (places_in_fpar f)
  fpar_kept f = both (reserved word.Fpar f.place) (both (list_of IsFormal places_in_formal formal_kept f.formals) (end_kept f.«end»))

  returns_kept : (r : ReturnsTree) → Keeps P (IsReturns r) (places_in_returns r)
  returns_kept r = both (reserved word.Returns r.place) (both (hname_kept r.sort) (end_kept r.«end»))

  -- ---- actions but decisions

  arg_kept : (a : ArgTree) → Keeps P (IsArg a) (places_in_arg a)
  arg_kept (arg.Value e) = expr_kept P e
  arg_kept (arg.Text t) = quoted t

  args_kept : (args : List ArgTree) → Keeps P (AreArgs args) (places_in_args args)
  args_kept args = both (passed mark.LeftParenthesis) (before (list_or_none IsArg places_in_arg arg_kept args) (passed mark.RightParenthesis))

  called_kept : (c : CallTree) → Keeps P (IsCalled c) (places_in_call c)
  called_kept c = both (named c.procedure) (perhaps AreArgs places_in_args args_kept c.args)

  assigned_kept : (a : AssignedTree) → Keeps P (IsAssigned a) (places_in_assigned a)
  assigned_kept (assigned.Call place c) = both (reserved word.Call place) (called_kept c)
  assigned_kept (assigned.Value e) = expr_kept P e

  assign_kept : (a : AssignTree) → Keeps P (IsAssign a) (places_in_assign a)
  assign_kept a = both (var_kept P a.target) (both (passed mark.Assign) (assigned_kept a.value))

  out_kept : (o : OutTree) → Keeps P (IsOut o) (places_in_out o)
  out_kept o = both (named o.signal) (bracketed IsExpr places_in_expr (expr_kept P) o.values)

  -- ---- questions and answers

  question_kept : (q : QuestionTree) → Keeps P (IsQuestion q) (places_in_question q)
  question_kept (question.Value e) = expr_kept P e
  question_kept (question.Any place) = reserved word.Any place
  question_kept (question.Text t) = quoted t

  const_kept : (c : ConstTree) → Keeps P (IsConst c) (places_in_const c)
  const_kept (constant.Number place n) = numeral n place
  const_kept (constant.Negative place n) = before (sign mark.Minus place) (digits n)
  const_kept (constant.Name name) = named name
  const_kept (constant.Truth place true) = reserved word.True place
  const_kept (constant.Truth place false) = reserved word.False place

  answer_kept : (a : AnswerTree) → Keeps P (IsAnswer a) (places_in_answer a)
  answer_kept (answer.One c) = const_kept c
  answer_kept (answer.Range low high) = both (const_kept low) (both (passed mark.Colon) (const_kept high))
  answer_kept (answer.Relation place relation c) = both (relation_kept P relation place) (const_kept c)

  -- ---- terminators

  label_kept : (name : Name) → Keeps P (IsLabel name) (places_in_name name)
  label_kept name = before (named name) (passed mark.Colon)

  via_kept : (name : Name) → Keeps P (Word word.Via ▸ Named name) (places_in_name name)
  via_kept name = both (passed_word word.Via) (named name)

  kind_kept : (k : TerminatorKind) (place : Place) → Keeps P (IsKind k place) (place ∷ places_in_kind k)
  kind_kept (kind.Dash dash) place = both (reserved word.Nextstate place) (sign mark.Minus dash)
  kind_kept (kind.History dash) place = both (reserved word.Nextstate place) (before (sign mark.Minus dash) (passed mark.Asterisk))
  kind_kept (kind.Next state via) place =
      both (reserved word.Nextstate place) (both (named state) (perhaps (λ v. Word word.Via ▸ Named v) places_in_name via_kept via))
  kind_kept (kind.Join label) place = both (reserved word.Join place) (named label)
  kind_kept (kind.Return result) place = both (reserved word.Return place) (perhaps IsExpr places_in_expr (expr_kept P) result)
  kind_kept kind.Stop place = reserved word.Stop place

  no_step_kept : Keeps P NoStep []
  no_step_kept = record { by = λ ts rest s all. (no_text {P = P}).by ts rest s.0 all }

  terminator_kept : (t : TerminatorTree) → Keeps P (IsTerminator t) (places_in_terminator t)
  terminator_kept t = both (perhaps IsLabel places_in_name label_kept t.label) (both (kind_kept t.kind t.place) (before (end_kept t.«end») no_step_kept))

  -- ---- transitions

  mutual
    transition_in : {t : TransitionTree} {ts rest : List Spanned} → IsTransition t ts rest → AreIn P ts → Kept P (places_in_transition t) rest
    transition_in (transition steps terminator {us = us} {rest = rest} s i) all =
        let x = steps_in s all in
        let y = (perhaps IsTerminator places_in_terminator terminator_kept terminator).by us rest i x.left in
        as_places (of-steps steps terminator) (followed x y)

    steps_in : {ss : List StepTree} {ts rest : List Spanned} → AreSteps ss ts rest → AreIn P ts → Kept P (flat_map places_in_step ss) rest
    steps_in no_step all = keeps_none P all
    steps_in (more_steps i j) all =
        let x = step_in i all in
        followed x (steps_in j x.left)

    step_in : {s : StepTree} {ts rest : List Spanned} → IsStep s ts rest → AreIn P ts → Kept P (places_in_step s) rest
    step_in (step label place a e {ts = ts} {us = us} {vs = vs} {rest = rest} l i z) all =
        let x = (perhaps IsLabel places_in_name label_kept label).by ts us l all in
        let y = action_in i x.left in
        let w = (end_kept e).by vs rest z y.left in
        as_places (of-step (record { label = label; place = place; action = a; «end» = e })) (followed x (followed y w))

    action_in : {a : ActionTree} {place : Place} {ts rest : List Spanned} → IsAction a place ts rest → AreIn P ts → Kept P (place ∷ places_in_action a) rest
    action_in (informal t place s i) all =
        let k = token_in P s all in
        followed k (as_places (of-Informal t) (token_in P i k.left))
    action_in (assignments xs place {us = us} {rest = rest} s i) all =
        let k = token_in P s all in
        followed k (as_places (of-Task xs) ((list_of IsAssign places_in_assign assign_kept xs).by us rest i k.left))
    action_in (outputs xs place {us = us} {rest = rest} s i) all =
        let k = token_in P s all in
        followed k (as_places (of-Output xs) ((list_of IsOut places_in_out out_kept xs).by us rest i k.left))
    action_in (called c place {us = us} {rest = rest} s i) all =
        let k = token_in P s all in
        followed k (as_places (of-Call c) ((called_kept c).by us rest i k.left))
    action_in (decided d place s i) all =
        let k = token_in P s all in
        followed k (as_places (of-Decision d) (decision_in i k.left))

    decision_in : {d : DecisionTree} {ts rest : List Spanned} → IsDecision d ts rest → AreIn P ts → Kept P (places_in_decision d) rest
    decision_in (decision q e bs o us {ts = ts} {vs = vs} iq ie ib io w) all =
        let x = (question_kept q).by ts us iq all in
        let y = (end_kept e).by us vs ie x.left in
        let z = branches_in ib y.left in
        let v = otherwise_in io z.left in
        as_places (of-choice q e bs o) (followed x (followed y (followed z (past v w))))

    branches_in : {bs : List BranchTree} {ts rest : List Spanned} → AreBranches bs ts rest → AreIn P ts → Kept P (flat_map places_in_branch bs) rest
    branches_in no_branch all = keeps_none P all
    branches_in (more_branches i j) all =
        let x = branch_in i all in
        followed x (branches_in j x.left)

    branch_in : {b : BranchTree} {ts rest : List Spanned} → IsBranch b ts rest → AreIn P ts → Kept P (places_in_branch b) rest
    branch_in (branch place answers t {us = us} {vs = vs} s i r c j) all =
        let k = token_in P s all in
        let x = (list_of IsAnswer places_in_answer answer_kept answers).by us vs i k.left in
        let y = transition_in j (passed_in P c (passed_in P r x.left)) in
        as_places (of-way place answers t) (followed k (followed x y))

    otherwise_in : {o : Option ElseTree} {ts rest : List Spanned} → IsOtherwise o ts rest → AreIn P ts → Kept P (maybe places_in_else o) rest
    otherwise_in no_else all = keeps_none P all
    otherwise_in (an_else place t s c i) all =
        let k = token_in P s all in
        as_places (of-other place t) (followed k (transition_in i (passed_in P c k.left)))

  pub transition_kept : (t : TransitionTree) → Keeps P (IsTransition t) (places_in_transition t)
  transition_kept t = record { by = λ ts rest i all. transition_in i all }

  -- ---- connections and procedures

  pub connection_kept : (c : ConnectionTree) → Keeps P (IsConnection c) (places_in_connection c)
  connection_kept c =
      both (reserved word.Connection c.place)
      (both (named c.label) (both (passed mark.Colon) (both (transition_kept c.transition) (both (passed_word word.Endconnection) (end_kept c.«end»)))))

  body_kept : (b : ProcedureBody) → Keeps P (IsBody b) (places_in_body b)
  body_kept (body.External place e) = both (reserved word.External place) (end_kept e)
  body_kept (body.Own dcls place e t connections closing) =
      both (each_of IsDcl places_in_dcl dcl_kept dcls)
      (both (reserved word.Start place)
      (both (end_kept e) (both (transition_kept t) (both (each_of IsConnection places_in_connection connection_kept connections) (closed_kept word.Endprocedure closing)))))

  pub procedure_kept : (p : ProcedureTree) → Keeps P (IsProcedure p) (places_in_procedure p)
  procedure_kept p =
      both (reserved word.Procedure p.place)
      (both (named p.name)
      (both (end_kept p.«end») (both (perhaps IsFpar places_in_fpar fpar_kept p.fpar) (both (perhaps IsReturns places_in_returns returns_kept p.returns) (body_kept p.body)))))
