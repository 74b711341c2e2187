-- Declarations, actions, transitions and procedures (Z.102 clauses 9, 11 and 12), production by production: of which tokens a tree
-- is the tree. `IsDcl d tokens rest` says that the tokens begin with a declaration whose tree is `d`, and that `rest` stands behind it.
use Rattle.std.specs.Prelude.{◌≡◌, ℕ, true, false, List, [], ◌∷◌, Option, Some, None}
use Rattle.og_base.specs.declared.Place.{Place}
use Rattle.og_lexer.specs.declared.Keyword.TheVariants as word
use Rattle.og_lexer.specs.declared.Mark.TheVariants as mark
use Rattle.og_lexer.specs.declared.Spanned.{Spanned}
use Rattle.og_lexer.specs.declared.Token.TheVariants as token
use Rattle.og_ast.specs.declared.ground.Name.{Name}
use Rattle.og_ast.specs.declared.ground.HyphenedName.{HyphenedName}
use Rattle.og_ast.specs.declared.ground.TextTree.{TextTree}
use Rattle.og_ast.specs.declared.ground.EndTree.{EndTree}
use Rattle.og_ast.specs.declared.ground.ClosingTree.{ClosingTree}
use Rattle.og_ast.specs.declared.expression.ExprTree.{ExprTree}
use Rattle.og_ast.specs.declared.data.DclTree.{DclTree}
use Rattle.og_ast.specs.declared.data.ItemTree.{ItemTree}
use Rattle.og_ast.specs.declared.data.TimerTree.{TimerTree}
use Rattle.og_ast.specs.declared.data.FparTree.{FparTree}
use Rattle.og_ast.specs.declared.data.FormalTree.{FormalTree}
use Rattle.og_ast.specs.declared.data.Passing.{Passing}
use Rattle.og_ast.specs.declared.data.Passing.TheVariants.{Unsaid, In, InOut}
use Rattle.og_ast.specs.declared.data.ReturnsTree.{ReturnsTree}
use Rattle.og_ast.specs.declared.transition.AssignTree.{AssignTree}
use Rattle.og_ast.specs.declared.transition.AssignedTree.{AssignedTree}
use Rattle.og_ast.specs.declared.transition.AssignedTree.TheVariants as assigned
use Rattle.og_ast.specs.declared.transition.OutTree.{OutTree}
use Rattle.og_ast.specs.declared.transition.CallTree.{CallTree}
use Rattle.og_ast.specs.declared.transition.ArgTree.{ArgTree}
use Rattle.og_ast.specs.declared.transition.ArgTree.TheVariants as arg
use Rattle.og_ast.specs.declared.transition.QuestionTree.{QuestionTree}
use Rattle.og_ast.specs.declared.transition.QuestionTree.TheVariants as question
use Rattle.og_ast.specs.declared.transition.AnswerTree.{AnswerTree}
use Rattle.og_ast.specs.declared.transition.AnswerTree.TheVariants as answer
use Rattle.og_ast.specs.declared.transition.ConstTree.{ConstTree}
use Rattle.og_ast.specs.declared.transition.ConstTree.TheVariants as constant
use Rattle.og_ast.specs.declared.transition.TerminatorTree.{TerminatorTree}
use Rattle.og_ast.specs.declared.transition.TerminatorKind.{TerminatorKind}
use Rattle.og_ast.specs.declared.transition.TerminatorKind.TheVariants as kind
use Rattle.og_ast.specs.declared.transition.TransitionTree.{TransitionTree}
use Rattle.og_ast.specs.declared.transition.StepTree.{StepTree}
use Rattle.og_ast.specs.declared.transition.ActionTree.{ActionTree, Informal, Task, Output, Call, Decision}
use Rattle.og_ast.specs.declared.transition.DecisionTree.{DecisionTree, roll-DecisionTree}
use Rattle.og_ast.specs.declared.transition.BranchTree.{BranchTree, roll-BranchTree}
use Rattle.og_ast.specs.declared.transition.ElseTree.{ElseTree, roll-ElseTree}
use Rattle.og_ast.specs.declared.procedure.ConnectionTree.{ConnectionTree}
use Rattle.og_ast.specs.declared.procedure.ProcedureTree.{ProcedureTree}
use Rattle.og_ast.specs.declared.procedure.ProcedureBody.{ProcedureBody}
use Rattle.og_ast.specs.declared.procedure.ProcedureBody.TheVariants as body
use Rattle.og_reading.specs.Fronts.{Text, Reserved, Sign, Named, Numeral, Quoted, Word, Passed, Digits, nothing, ◌▸◌, optional, each, separated_by, separated, perhaps_separated, in_brackets, IsNotBefore}
use Rattle.og_parse_expr.specs.Grammar.{IsExpr, IsVar, IsRelation}
use Rattle.og_parse_body.specs.Reading.{transition_of}

-- hname = name { "-" name } .
abbrev pub IsHname : HyphenedName → Text
IsHname h = separated_by mark.Minus Named h.parts

-- end = [ COMMENT text ] ";" .
abbrev pub IsEnd : EndTree → Text
IsEnd e = optional (λ t. Word word.Comment ▸ Quoted t) e.comment ▸ Sign mark.Semicolon e.place

-- names = name { "," name } .
abbrev pub AreNames : List Name → Text
AreNames = separated Named

-- [ name ] end, behind an END keyword
abbrev pub IsClosing : ClosingTree → Text
IsClosing c = optional Named c.name ▸ IsEnd c.«end»

-- ---- declarations

-- item = names hname [ ":=" expr ] .
abbrev pub IsItem : ItemTree → Text
IsItem i = AreNames i.names ▸ IsHname i.sort ▸ optional (λ e. Passed mark.Assign ▸ IsExpr e) i.initial

-- dcl = DCL item { "," item } end .
abbrev pub IsDcl : DclTree → Text
IsDcl d = Reserved word.Dcl d.place ▸ separated IsItem d.items ▸ IsEnd d.«end»

-- timer = TIMER names end .
abbrev pub IsTimer : TimerTree → Text
IsTimer t = Reserved word.Timer t.place ▸ AreNames t.names ▸ IsEnd t.«end»

-- [ IN | IN "/" OUT ]
abbrev pub IsPassing : Passing → Text
IsPassing Unsaid = nothing
IsPassing In = Word word.In
IsPassing InOut = Word word.In ▸ Passed mark.Solidus ▸ Word word.Out

-- formal = [ IN | IN "/" OUT ] names hname .
abbrev pub IsFormal : FormalTree → Text
IsFormal f = IsPassing f.passing ▸ AreNames f.names ▸ IsHname f.sort

-- fpar = FPAR formal { "," formal } end .
abbrev pub IsFpar : FparTree → Text
IsFpar f = Reserved word.Fpar f.place ▸ separated IsFormal f.formals ▸ IsEnd f.«end»

-- RETURNS hname end
abbrev pub IsReturns : ReturnsTree → Text
IsReturns r = Reserved word.Returns r.place ▸ IsHname r.sort ▸ IsEnd r.«end»

-- ---- actions but decisions

-- arg = expr | text .
abbrev pub IsArg : ArgTree → Text
IsArg (arg.Value e) = IsExpr e
IsArg (arg.Text t) = Quoted t

-- args = "(" [ arg { "," arg } ] ")" .
abbrev pub AreArgs : List ArgTree → Text
AreArgs args = Passed mark.LeftParenthesis ▸ perhaps_separated IsArg args ▸ Passed mark.RightParenthesis

-- name [ args ], behind CALL
abbrev pub IsCalled : CallTree → Text
IsCalled c = Named c.procedure ▸ optional AreArgs c.args

-- CALL name [ args ] | expr
abbrev pub IsAssigned : AssignedTree → Text
IsAssigned (assigned.Call place c) = Reserved word.Call place ▸ IsCalled c
IsAssigned (assigned.Value e) = IsExpr e

-- assign = var ":=" ( CALL name [ args ] | expr ) .
abbrev pub IsAssign : AssignTree → Text
IsAssign a = IsVar a.target ▸ Passed mark.Assign ▸ IsAssigned a.value

-- out = name [ "(" expr { "," expr } ")" ] .
abbrev pub IsOut : OutTree → Text
IsOut o = Named o.signal ▸ in_brackets IsExpr o.values

-- ---- questions and answers

-- expr | ANY | text
abbrev pub IsQuestion : QuestionTree → Text
IsQuestion (question.Value e) = IsExpr e
IsQuestion (question.Any place) = Reserved word.Any place
IsQuestion (question.Text t) = Quoted t

-- const = [ "-" ] number | name | TRUE | FALSE .
abbrev pub IsConst : ConstTree → Text
IsConst (constant.Number place n) = Numeral n place
IsConst (constant.Negative place n) = Sign mark.Minus place ▸ Digits n
IsConst (constant.Name name) = Named name
IsConst (constant.Truth place true) = Reserved word.True place
IsConst (constant.Truth place false) = Reserved word.False place

-- answer = const [ ":" const ] | relop const .
abbrev pub IsAnswer : AnswerTree → Text
IsAnswer (answer.One c) = IsConst c
IsAnswer (answer.Range low high) = IsConst low ▸ Passed mark.Colon ▸ IsConst high
IsAnswer (answer.Relation place r c) = IsRelation r place ▸ IsConst c

-- ---- terminators

-- name ":"
abbrev pub IsLabel : Name → Text
IsLabel name = Named name ▸ Passed mark.Colon

-- terminator = NEXTSTATE ( "-" [ "*" ] | name [ VIA name ] ) | JOIN name | RETURN [ expr ] | STOP .
abbrev pub IsKind : TerminatorKind → Place → Text
IsKind (kind.Dash dash) place = Reserved word.Nextstate place ▸ Sign mark.Minus dash
IsKind (kind.History dash) place = Reserved word.Nextstate place ▸ Sign mark.Minus dash ▸ Passed mark.Asterisk
IsKind (kind.Next state via) place = Reserved word.Nextstate place ▸ Named state ▸ optional (λ v. Word word.Via ▸ Named v) via
IsKind (kind.Join label) place = Reserved word.Join place ▸ Named label
IsKind (kind.Return result) place = Reserved word.Return place ▸ optional IsExpr result
IsKind kind.Stop place = Reserved word.Stop place

-- no step stands in front
pub record BeginsNoStep (tokens : List Spanned) : Type 0 where
  pub label : (name : Name) → IsNotBefore (token.Name name.word) tokens
  pub task : IsNotBefore (token.Keyword word.Task) tokens
  pub output : IsNotBefore (token.Keyword word.Output) tokens
  pub call : IsNotBefore (token.Keyword word.Call) tokens
  pub decision : IsNotBefore (token.Keyword word.Decision) tokens
  pub nextstate : IsNotBefore (token.Keyword word.Nextstate) tokens
  pub join : IsNotBefore (token.Keyword word.Join) tokens
  pub «return» : IsNotBefore (token.Keyword word.Return) tokens
  pub stop : IsNotBefore (token.Keyword word.Stop) tokens

abbrev pub NoStep : Text
NoStep tokens rest = (tokens ≡ rest) × BeginsNoStep tokens

-- [ name ":" ] terminator end, behind which stands no step
abbrev pub IsTerminator : TerminatorTree → Text
IsTerminator t = optional IsLabel t.label ▸ IsKind t.kind t.place ▸ IsEnd t.«end» ▸ NoStep

-- ---- transitions

mutual
  -- transition = { [ name ":" ] action end } [ [ name ":" ] terminator end ] .
  pub data IsTransition : TransitionTree → List Spanned → List Spanned → Type 0 where
    transition : (steps : List StepTree) (terminator : Option TerminatorTree) {ts us rest : List Spanned} → AreSteps steps ts us → optional IsTerminator terminator us rest
        → IsTransition (transition_of steps terminator) ts rest

  pub data AreSteps : List StepTree → List Spanned → List Spanned → Type 0 where
    no_step : {ts : List Spanned} → AreSteps [] ts ts
    more_steps : {s : StepTree} {ss : List StepTree} {ts us rest : List Spanned} → IsStep s ts us → AreSteps ss us rest → AreSteps (s ∷ ss) ts rest

  pub data IsStep : StepTree → List Spanned → List Spanned → Type 0 where
    step : (label : Option Name) (place : Place) (a : ActionTree) (e : EndTree) {ts us vs rest : List Spanned} → optional IsLabel label ts us → IsAction a place us vs → IsEnd e vs rest
        → IsStep (record { label = label; place = place; action = a; «end» = e }) ts rest

  -- action = TASK ( text | assign { "," assign } ) | OUTPUT out { "," out } | CALL name [ args ] | DECISION ..
  pub data IsAction : ActionTree → Place → List Spanned → List Spanned → Type 0 where
    informal : (t : TextTree) (place : Place) {ts us rest : List Spanned} → Reserved word.Task place ts us → Quoted t us rest → IsAction (Informal t) place ts rest
    assignments : (xs : List AssignTree) (place : Place) {ts us rest : List Spanned} → Reserved word.Task place ts us → separated IsAssign xs us rest → IsAction (Task xs) place ts rest
    outputs : (xs : List OutTree) (place : Place) {ts us rest : List Spanned} → Reserved word.Output place ts us → separated IsOut xs us rest → IsAction (Output xs) place ts rest
    called : (c : CallTree) (place : Place) {ts us rest : List Spanned} → Reserved word.Call place ts us → IsCalled c us rest → IsAction (Call c) place ts rest
    decided : (d : DecisionTree) (place : Place) {ts us rest : List Spanned} → Reserved word.Decision place ts us → IsDecision d us rest → IsAction (Decision d) place ts rest

  -- DECISION ( expr | ANY | text ) end { answers ":" transition } [ ELSE ":" transition ] ENDDECISION, behind its keyword
  pub data IsDecision : DecisionTree → List Spanned → List Spanned → Type 0 where
    decision : (q : QuestionTree) (e : EndTree) (bs : List BranchTree) (o : Option ElseTree) (us : List Spanned) {ts vs ws xs rest : List Spanned} → IsQuestion q ts us → IsEnd e us vs → AreBranches bs vs ws
        → IsOtherwise o ws xs → Word word.Enddecision xs rest → IsDecision (roll-DecisionTree (record { question = q; «end» = e; branches = bs; otherwise = o })) ts rest

  pub data AreBranches : List BranchTree → List Spanned → List Spanned → Type 0 where
    no_branch : {ts : List Spanned} → AreBranches [] ts ts
    more_branches : {b : BranchTree} {bs : List BranchTree} {ts us rest : List Spanned} → IsBranch b ts us → AreBranches bs us rest → AreBranches (b ∷ bs) ts rest

  -- answers ":" transition, answers = "(" answer { "," answer } ")" .
  pub data IsBranch : BranchTree → List Spanned → List Spanned → Type 0 where
    branch : (place : Place) (answers : List AnswerTree) (t : TransitionTree) {ts us vs ws xs rest : List Spanned} → Sign mark.LeftParenthesis place ts us → separated IsAnswer answers us vs
        → Passed mark.RightParenthesis vs ws → Passed mark.Colon ws xs → IsTransition t xs rest → IsBranch (roll-BranchTree (record { place = place; answers = answers; transition = t })) ts rest

  -- [ ELSE ":" transition ]
  pub data IsOtherwise : Option ElseTree → List Spanned → List Spanned → Type 0 where
    no_else : {ts : List Spanned} → IsOtherwise None ts ts
    an_else : (place : Place) (t : TransitionTree) {ts us vs rest : List Spanned} → Reserved word.Else place ts us → Passed mark.Colon us vs → IsTransition t vs rest
        → IsOtherwise (Some (roll-ElseTree (record { place = place; transition = t }))) ts rest

-- ---- connections and procedures

-- connection = CONNECTION name ":" transition ENDCONNECTION end .
abbrev pub IsConnection : ConnectionTree → Text
IsConnection c = Reserved word.Connection c.place ▸ Named c.label ▸ Passed mark.Colon ▸ IsTransition c.transition ▸ Word word.Endconnection ▸ IsEnd c.«end»

-- ( EXTERNAL | { dcl } START end transition { connection } ENDPROCEDURE [ name ] ) end
abbrev pub IsBody : ProcedureBody → Text
IsBody (body.External place e) = Reserved word.External place ▸ IsEnd e
IsBody (body.Own dcls place e t connections closing) =
    each IsDcl dcls ▸ Reserved word.Start place ▸ IsEnd e ▸ IsTransition t ▸ each IsConnection connections ▸ Reserved word.Endprocedure closing.place ▸ IsClosing closing

-- procedure = PROCEDURE name end [ fpar ] [ RETURNS hname end ] ( .. ) .
abbrev pub IsProcedure : ProcedureTree → Text
IsProcedure p = Reserved word.Procedure p.place ▸ Named p.name ▸ IsEnd p.«end» ▸ optional IsFpar p.fpar ▸ optional IsReturns p.returns ▸ IsBody p.body
