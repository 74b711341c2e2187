-- Each declaration, action, transition and procedure is read as what it is.
use Rattle.std.proofs.Common.{◌≡◌, ℕ, zero, suc, Bool, true, false, cond, List, [], ◌∷◌, ◌++◌, Option, Some, None, slice_get, refl, sym, ap, subst, ◌∙◌, append_assoc}
use Rattle.std.proofs.lemmas.List.{append-nil}
use Rattle.og_grammar.specs.declared.Nesting.{Nesting}
use Rattle.og_grammar.specs.declared.Symbol.{Symbol}
use Rattle.og_grammar.specs.declared.Symbol.TheVariants.{Token, Part, Scope, Maybe, Many, NotBefore}
use Rattle.og_grammar.specs.Sentence.{rules_of, IsNotFirst}
use Rattle.og_base.specs.declared.Place.{Place}
use Rattle.og_lexer.specs.declared.Keyword.{Keyword}
use Rattle.og_lexer.specs.declared.Keyword.TheVariants as word
use Rattle.og_lexer.specs.declared.Mark.TheVariants as mark
use Rattle.og_lexer.specs.declared.Spanned.{Spanned}
use Rattle.og_lexer.specs.declared.Token.TheVariants as token
use Rattle.og_ast.specs.declared.ground.Name.{Name}
use Rattle.og_ast.specs.declared.ground.HyphenedName.{HyphenedName}
use Rattle.og_ast.specs.declared.ground.TextTree.{TextTree}
use Rattle.og_ast.specs.declared.ground.EndTree.{EndTree}
use Rattle.og_ast.specs.declared.ground.ClosingTree.{ClosingTree}
use Rattle.og_ast.specs.declared.expression.ExprTree.{ExprTree}
use Rattle.og_ast.specs.declared.expression.RelationOperator.{RelationOperator}
use Rattle.og_ast.specs.declared.data.DclTree.{DclTree}
use Rattle.og_ast.specs.declared.data.ItemTree.{ItemTree}
use Rattle.og_ast.specs.declared.data.TimerTree.{TimerTree}
use Rattle.og_ast.specs.declared.data.FparTree.{FparTree}
use Rattle.og_ast.specs.declared.data.FormalTree.{FormalTree}
use Rattle.og_ast.specs.declared.data.Passing.{Passing}
use Rattle.og_ast.specs.declared.data.Passing.TheVariants.{Unsaid, In, InOut}
use Rattle.og_ast.specs.declared.data.ReturnsTree.{ReturnsTree}
use Rattle.og_ast.specs.declared.transition.AssignTree.{AssignTree}
use Rattle.og_ast.specs.declared.transition.AssignedTree.{AssignedTree}
use Rattle.og_ast.specs.declared.transition.AssignedTree.TheVariants as assigned
use Rattle.og_ast.specs.declared.transition.OutTree.{OutTree}
use Rattle.og_ast.specs.declared.transition.CallTree.{CallTree}
use Rattle.og_ast.specs.declared.transition.ArgTree.{ArgTree}
use Rattle.og_ast.specs.declared.transition.ArgTree.TheVariants as arg
use Rattle.og_ast.specs.declared.transition.QuestionTree.{QuestionTree}
use Rattle.og_ast.specs.declared.transition.QuestionTree.TheVariants as question
use Rattle.og_ast.specs.declared.transition.AnswerTree.{AnswerTree}
use Rattle.og_ast.specs.declared.transition.AnswerTree.TheVariants as answer
use Rattle.og_ast.specs.declared.transition.ConstTree.{ConstTree}
use Rattle.og_ast.specs.declared.transition.ConstTree.TheVariants as constant
use Rattle.og_ast.specs.declared.transition.TerminatorTree.{TerminatorTree}
use Rattle.og_ast.specs.declared.transition.TerminatorKind.{TerminatorKind}
use Rattle.og_ast.specs.declared.transition.TerminatorKind.TheVariants as kind
use Rattle.og_ast.specs.declared.transition.TransitionTree.{TransitionTree}
use Rattle.og_ast.specs.declared.transition.StepTree.{StepTree}
use Rattle.og_ast.specs.declared.transition.ActionTree.{ActionTree, Informal, Task, Output, Call, Decision}
use Rattle.og_ast.specs.declared.transition.DecisionTree.{DecisionTree, roll-DecisionTree}
use Rattle.og_ast.specs.declared.transition.BranchTree.{BranchTree, roll-BranchTree}
use Rattle.og_ast.specs.declared.transition.ElseTree.{ElseTree, roll-ElseTree}
use Rattle.og_ast.specs.declared.procedure.ConnectionTree.{ConnectionTree}
use Rattle.og_ast.specs.declared.procedure.ProcedureTree.{ProcedureTree}
use Rattle.og_ast.specs.declared.procedure.ProcedureBody.{ProcedureBody}
use Rattle.og_ast.specs.declared.procedure.ProcedureBody.TheVariants as body
use Rattle.og_sdl.specs.declared.table.TheConstants.{SDL}
use Rattle.og_reading.specs.Kinds.{kind_of_keyword, kind_of, kinds_of}
use Rattle.og_reading.specs.Reading.{Rest, Take, behind, after, place_in, name_in, maybe, onto, more_of, list_at, list_in_brackets, list_or_none}
use Rattle.og_reading.specs.Fronts.{Text, Stands, Reserved, Sign, Named, Numeral, Quoted, Word, Passed, nothing, ◌▸◌, optional, each, separated_by, separated, perhaps_separated, in_brackets, IsNotBefore}
use Rattle.og_reading.proofs.KindsOfTokens.{keyword_is, name_is}
use Rattle.og_reading.proofs.Deriving.{IsPart}
use Rattle.og_reading.proofs.ReadParts.{then_take, as_take, option_take}
use Rattle.og_reading.proofs.WrittenParts.{left, Writes, writes_word, writes_mark, writes_name, writes_number, writes_text, writes_then, writes_and, writes_as, writes_nothing, writes_not, writes_deeper, writes_part, writes_none, writes_some, WritesTurns, no_turn, one_turn, writes_onto}
use Rattle.og_reading.proofs.Lists.{writes_all, writes_maybe, writes_list, writes_in_brackets, writes_or_none}
use Rattle.og_parse_expr.specs.Reading.{expr_at, var_at, relation_sign_at}
use Rattle.og_parse_expr.specs.Grammar.{IsExpr, IsVar, IsRelation}
use Rattle.og_parse_expr.proofs.WrittenExpressions.{writes_expr, writes_var, relations}
use Rattle.og_parse_body.specs.declared.transition.StepText.{StepText}
use Rattle.og_parse_body.specs.declared.transition.StepText.TheVariants as text
use Rattle.og_parse_body.specs.Reading.{name_at, hname_at, comment_at, end_at, own_name_at, closing_at, initial_at, declared_at, dcl_at, timer_at, and_out_at, passing_at, formal_at, fpar_at, returns_at, argument_at, args_at, called_at, assigned_at, assign_at, out_at, question_at, constant_at, upto_at, answer_at, label_at, dash_at, via_at, target_at, result_at, placed, kind_at, terminator_at, transition_of, SoFar, with_step, task_at, branch_at, otherwise_at, decision_at, keyed_at, action_at, unlabelled_at, step_at, onto_step, transition_by, transition_at, connection_at, own_body_at, body_at, procedure_at}
use Rattle.og_parse_body.specs.Grammar.{IsHname, IsEnd, AreNames, IsClosing, IsItem, IsDcl, IsTimer, IsPassing, IsFormal, IsFpar, IsReturns, IsArg, AreArgs, IsCalled, IsAssigned, IsAssign, IsOut, IsQuestion, IsConst, IsAnswer, IsLabel, IsKind, BeginsNoStep, NoStep, IsTerminator, IsTransition, transition, AreSteps, no_step, more_steps, IsStep, step, IsAction, informal, assignments, outputs, called, decided, IsDecision, decision, AreBranches, no_branch, more_branches, IsBranch, branch, IsOtherwise, no_else, an_else, IsConnection, IsBody, IsProcedure}
use Rattle.og_parse_body.proofs.ReadBodies.{sdl_has}

-- a rule of a part by its place
pub by_rule : {X : Type 0} (p : ℕ) (s : Symbol) → IsPart p s → (c : ℕ) {way : List Symbol} → slice_get (rules_of p SDL) c ≡ Some way → {a : ℕ → Take X} (take : ℕ → Take X) {x : X} {ts us : List Spanned} → Writes SDL way a x ts us
    → ((n : ℕ) (cs : List ℕ) → take n (left (c ∷ cs) ts) ≡ a n (left cs ts)) → Writes SDL (s ∷ []) take x ts us
by_rule p s is c {way = way} e take w so = writes_part p s is c way e take w so

-- each X is read by this part
abbrev pub Each : {X : Type 0} → ℕ → (ℕ → Take X) → (X → Text) → Type 0
Each {X = X} p take Is = (x : X) (ts us : List Spanned) → Is x ts us → Writes SDL (Part p ∷ []) take x ts us

-- ---- names and ends

pub writes_hname : (s : Symbol) → IsPart 36 s → (h : HyphenedName) (ts us : List Spanned) → IsHname h ts us → Writes SDL (s ∷ []) (λ n. hname_at) h ts us
unfolding hname_at
writes_hname s is h ts us i = writes_as (λ ps. record { parts = ps }) (writes_list mark.Minus 36 37 refl refl writes_name writes_name s is h.parts ts us i)

writes_comment : Each 39 (λ n. comment_at) (λ t. Word word.Comment ▸ Quoted t)
unfolding comment_at
writes_comment t ts us i = by_rule 39 (Part 39) refl 0 refl (λ n. comment_at) (writes_as (λ x. x.1) (writes_and (writes_word word.Comment i.1.0 ts i.0 i.1.1) (writes_text t i.0 us i.2))) (λ n cs. refl)

pub writes_end : Each 38 (λ n. end_at) IsEnd
unfolding end_at
writes_end e ts us i =
    by_rule 38 (Part 38) refl 0 refl (λ n. end_at)
    (writes_as (λ x. record { place = x.1; comment = x.0 }) (writes_and (writes_maybe (λ n. comment_at) _ writes_comment e.comment ts i.0 i.1) (writes_mark mark.Semicolon e.place i.0 us i.2))) (λ n cs. refl)

pub writes_names : (s : Symbol) → IsPart 40 s → (names : List Name) (ts us : List Spanned) → AreNames names ts us → Writes SDL (s ∷ []) (λ n. list_at name_at) names ts us
writes_names s is names ts us i = writes_list mark.Comma 40 41 refl refl writes_name writes_name s is names ts us i

pub writes_own_name : Each 42 (λ n. own_name_at) Named
unfolding own_name_at
writes_own_name name ts us i = by_rule 42 (Part 42) refl 0 refl (λ n. own_name_at) (writes_name name ts us i) (λ n cs. refl)

-- behind an END keyword, with it
pub writes_closing : {nesting : Nesting} (w : Keyword) (c : ClosingTree) (ts us : List Spanned) → (Reserved w c.place ▸ IsClosing c) ts us
    → Writes SDL (Token (kind_of_keyword w) nesting ∷ Part 43 ∷ []) (λ n rest. closing_at (place_in rest) (behind rest)) c ts us
unfolding closing_at
writes_closing w c ts us i =
    writes_as (λ x. record { place = x.0; name = x.1.0; «end» = x.1.1 })
    (writes_and (writes_word w c.place ts i.0 i.1)
    (by_rule 43 (Part 43) refl 0 refl (λ n rest. (let name = maybe own_name_at (after rest) in let e = end_at name.1 in ((name.0, e.0), e.1)))
    (writes_and (writes_maybe (λ n. own_name_at) Named writes_own_name c.name i.0 i.2.0 i.2.1) (writes_end c.«end» i.2.0 us i.2.2)) (λ n cs. refl)))

-- ---- declarations

writes_initial : Each 48 initial_at (λ e. Passed mark.Assign ▸ IsExpr e)
unfolding initial_at
writes_initial e ts us i =
    by_rule 48 (Part 48) refl 0 refl initial_at (writes_as (λ x. x.1) (writes_and (writes_mark mark.Assign i.1.0 ts i.0 i.1.1) (writes_expr SDL sdl_has i.2 (Scope 1) refl))) (λ n cs. refl)

writes_item : Each 47 declared_at IsItem
unfolding declared_at
writes_item x ts us i =
    by_rule 47 (Part 47) refl 0 refl declared_at
    (writes_as (λ x. record { names = x.0; sort = x.1.0; initial = x.1.1 })
    (writes_and (writes_names (Part 40) refl x.names ts i.0 i.1)
    (writes_and (writes_hname (Part 36) refl x.sort i.0 i.2.0 i.2.1) (writes_maybe initial_at _ writes_initial x.initial i.2.0 us i.2.2)))) (λ n cs. refl)

pub writes_dcl : Each 44 dcl_at IsDcl
unfolding dcl_at
writes_dcl d ts us i =
    by_rule 44 (Part 44) refl 0 refl dcl_at
    (writes_as (λ x. record { place = x.0; items = x.1.0; «end» = x.1.1 })
    (writes_and (writes_word word.Dcl d.place ts i.0 i.1)
    (writes_and (writes_list mark.Comma 45 46 refl refl writes_item writes_item (Part 45) refl d.items i.0 i.2.0 i.2.1) (writes_end d.«end» i.2.0 us i.2.2)))) (λ n cs. refl)

pub writes_timer : Each 49 (λ n. timer_at) IsTimer
unfolding timer_at
writes_timer t ts us i =
    by_rule 49 (Part 49) refl 0 refl (λ n. timer_at)
    (writes_as (λ x. record { place = x.0; names = x.1.0; «end» = x.1.1 })
    (writes_and (writes_word word.Timer t.place ts i.0 i.1) (writes_and (writes_names (Part 40) refl t.names i.0 i.2.0 i.2.1) (writes_end t.«end» i.2.0 us i.2.2)))) (λ n cs. refl)

-- ---- parameters

out_behind : Passing → Take Passing
out_behind p rest = (p, behind (behind (after rest)))

writes_passing : (p : Passing) (ts us : List Spanned) → IsPassing p ts us → Writes SDL (Maybe 54 ∷ []) (λ n. passing_at) p ts us
unfolding passing_at and_out_at out_behind
writes_passing Unsaid ts us i = writes_none (λ n rest. and_out_at (behind (after rest))) Unsaid ts us i
writes_passing In ts us i =
    writes_some Unsaid
    (by_rule 54 (Part 54) refl 0 refl (λ n rest. and_out_at (behind (after rest)))
    (writes_as (λ x. x.1) (writes_and (writes_word word.In i.0 ts us i.1) (writes_none (λ n. out_behind InOut) In us us refl))) (λ n cs. refl))
writes_passing InOut ts us i =
    writes_some Unsaid
    (by_rule 54 (Part 54) refl 0 refl (λ n rest. and_out_at (behind (after rest)))
    (writes_as (λ x. x.1) (writes_and (writes_word word.In i.1.0 ts i.0 i.1.1)
    (writes_some In (by_rule 55 (Part 55) refl 0 refl (λ n. out_behind InOut)
    (writes_as (λ x. InOut) (writes_and (writes_mark mark.Solidus i.2.1.0 i.0 i.2.0 i.2.1.1) (writes_word word.Out i.2.2.0 i.2.0 us i.2.2.1))) (λ n cs. refl))))) (λ n cs. refl))

writes_formal : Each 53 (λ n. formal_at) IsFormal
unfolding formal_at
writes_formal f ts us i =
    by_rule 53 (Part 53) refl 0 refl (λ n. formal_at)
    (writes_as (λ x. record { passing = x.0; names = x.1.0; sort = x.1.1 })
    (writes_and (writes_passing f.passing ts i.0 i.1) (writes_and (writes_names (Part 40) refl f.names i.0 i.2.0 i.2.1) (writes_hname (Part 36) refl f.sort i.2.0 us i.2.2)))) (λ n cs. refl)

pub writes_fpar : Each 50 (λ n. fpar_at) IsFpar
unfolding fpar_at
writes_fpar f ts us i =
    by_rule 50 (Part 50) refl 0 refl (λ n. fpar_at)
    (writes_as (λ x. record { place = x.0; formals = x.1.0; «end» = x.1.1 })
    (writes_and (writes_word word.Fpar f.place ts i.0 i.1)
    (writes_and (writes_list mark.Comma 51 52 refl refl writes_formal writes_formal (Part 51) refl f.formals i.0 i.2.0 i.2.1) (writes_end f.«end» i.2.0 us i.2.2)))) (λ n cs. refl)

pub writes_returns : Each 56 (λ n. returns_at) IsReturns
unfolding returns_at
writes_returns r ts us i =
    by_rule 56 (Part 56) refl 0 refl (λ n. returns_at)
    (writes_as (λ x. record { place = x.0; sort = x.1.0; «end» = x.1.1 })
    (writes_and (writes_word word.Returns r.place ts i.0 i.1) (writes_and (writes_hname (Part 36) refl r.sort i.0 i.2.0 i.2.1) (writes_end r.«end» i.2.0 us i.2.2)))) (λ n cs. refl)

-- ---- actions but decisions

the_expr : (e : ExprTree) (ts us : List Spanned) → IsExpr e ts us → Writes SDL (Scope 1 ∷ []) expr_at e ts us
the_expr e ts us i = writes_expr SDL sdl_has i (Scope 1) refl

writes_argument : Each 66 argument_at IsArg
unfolding argument_at
writes_argument (arg.Value e) ts us i = by_rule 66 (Part 66) refl 0 refl argument_at (writes_as arg.Value (the_expr e ts us i)) (λ n cs. refl)
writes_argument (arg.Text t) ts us i = by_rule 66 (Part 66) refl 1 refl argument_at (writes_as arg.Text (writes_text t ts us i)) (λ n cs. refl)

writes_args : Each 63 args_at AreArgs
unfolding args_at
writes_args xs ts us i =
    by_rule 63 (Part 63) refl 0 refl args_at
    (writes_as (λ x. x.1.0)
    (writes_and (writes_mark mark.LeftParenthesis i.1.0 ts i.0 i.1.1)
    (writes_and (writes_or_none argument_at 64 (writes_list mark.Comma 64 65 refl refl writes_argument writes_argument (Part 64) refl) xs i.0 i.2.0 i.2.1)
    (writes_mark mark.RightParenthesis i.2.2.0 i.2.0 us i.2.2.1)))) (λ n cs. refl)

writes_called : Each 62 called_at IsCalled
unfolding called_at
writes_called c ts us i =
    by_rule 62 (Part 62) refl 0 refl called_at
    (writes_as (λ x. record { procedure = x.0; args = x.1 }) (writes_and (writes_name c.procedure ts i.0 i.1) (writes_maybe args_at AreArgs writes_args c.args i.0 us i.2))) (λ n cs. refl)

writes_assigned : Each 61 assigned_at IsAssigned
unfolding assigned_at
writes_assigned (assigned.Call place c) ts us i =
    by_rule 61 (Part 61) refl 0 refl assigned_at (writes_as (λ x. assigned.Call x.0 x.1) (writes_and (writes_word word.Call place ts i.0 i.1) (writes_called c i.0 us i.2))) (λ n cs. refl)
writes_assigned (assigned.Value e) ts us i = by_rule 61 (Part 61) refl 1 refl assigned_at (writes_as assigned.Value (the_expr e ts us i)) (λ n cs. refl)

writes_assign : Each 60 assign_at IsAssign
unfolding assign_at
writes_assign a ts us i =
    by_rule 60 (Part 60) refl 0 refl assign_at
    (writes_as (λ x. record { target = x.0; value = x.1.1 })
    (writes_and (writes_var SDL sdl_has i.1 57 (Scope 57) refl refl)
    (writes_and (writes_mark mark.Assign i.2.1.0 i.0 i.2.0 i.2.1.1) (writes_assigned a.value i.2.0 us i.2.2)))) (λ n cs. refl)

writes_out : Each 69 out_at IsOut
unfolding out_at
writes_out o ts us i =
    by_rule 69 (Part 69) refl 0 refl out_at
    (writes_as (λ x. record { signal = x.0; values = x.1 })
    (writes_and (writes_name o.signal ts i.0 i.1)
    (writes_in_brackets expr_at 70 refl (writes_list mark.Comma 71 72 refl refl the_expr the_expr (Part 71) refl) o.values i.0 us i.2))) (λ n cs. refl)

-- ---- questions and answers

writes_question : Each 73 question_at IsQuestion
unfolding question_at
writes_question (question.Value e) ts us i = by_rule 73 (Part 73) refl 0 refl question_at (writes_as question.Value (the_expr e ts us i)) (λ n cs. refl)
writes_question (question.Any place) ts us i = by_rule 73 (Part 73) refl 1 refl question_at (writes_as question.Any (writes_word word.Any place ts us i)) (λ n cs. refl)
writes_question (question.Text t) ts us i = by_rule 73 (Part 73) refl 2 refl question_at (writes_as question.Text (writes_text t ts us i)) (λ n cs. refl)

writes_constant : Each 78 (λ n. constant_at) IsConst
unfolding constant_at
writes_constant (constant.Number place m) ts us i = by_rule 78 (Part 78) refl 1 refl (λ n. constant_at) (writes_as (λ x. constant.Number x.1 x.0) (writes_number m place ts us i)) (λ n cs. refl)
writes_constant (constant.Negative place m) ts us i =
    by_rule 78 (Part 78) refl 0 refl (λ n. constant_at) (writes_as (λ x. constant.Negative x.0 x.1.0) (writes_and (writes_mark mark.Minus place ts i.0 i.1) (writes_number m i.2.0 i.0 us i.2.1))) (λ n cs. refl)
writes_constant (constant.Name name) ts us i = by_rule 78 (Part 78) refl 2 refl (λ n. constant_at) (writes_as constant.Name (writes_name name ts us i)) (λ n cs. refl)
writes_constant (constant.Truth place true) ts us i = by_rule 78 (Part 78) refl 3 refl (λ n. constant_at) (writes_as (λ p. constant.Truth p true) (writes_word word.True place ts us i)) (λ n cs. refl)
writes_constant (constant.Truth place false) ts us i = by_rule 78 (Part 78) refl 4 refl (λ n. constant_at) (writes_as (λ p. constant.Truth p false) (writes_word word.False place ts us i)) (λ n cs. refl)

-- up to this constant
range_behind : ConstTree → Take AnswerTree
range_behind low rest = let high = constant_at (behind (after rest)) in (answer.Range low high.0, high.1)

writes_answer : (x : AnswerTree) (ts us : List Spanned) → IsAnswer x ts us → Writes SDL (Scope 76 ∷ []) (λ n. answer_at) x ts us
unfolding answer_at upto_at range_behind
writes_answer (answer.One c) ts us i =
    by_rule 76 (Scope 76) refl 0 refl (λ n. answer_at) (writes_as (λ x. x.1) (writes_then (λ n c. upto_at c) (writes_constant c ts us i) (writes_none (λ n. range_behind c) (answer.One c) us us refl))) (λ n cs. refl)
writes_answer (answer.Range low high) ts us i =
    by_rule 76 (Scope 76) refl 0 refl (λ n. answer_at)
    (writes_as (λ x. x.1)
    (writes_then (λ n c. upto_at c) (writes_constant low ts i.0 i.1)
    (writes_some (answer.One low)
    (by_rule 77 (Part 77) refl 0 refl (λ n. range_behind low)
    (writes_as (λ x. answer.Range low x.1) (writes_and (writes_mark mark.Colon i.2.1.0 i.0 i.2.0 i.2.1.1) (writes_constant high i.2.0 us i.2.2))) (λ n cs. refl))))) (λ n cs. refl)
writes_answer (answer.Relation place r c) ts us i =
    by_rule 76 (Scope 76) refl 1 refl (λ n. answer_at)
    (writes_as (λ x. answer.Relation x.0.place x.0.relation x.1) (writes_and (relations SDL sdl_has i.1) (writes_constant c i.0 us i.2))) (λ n cs. refl)

-- ---- terminators

writes_label : Each 79 (λ n. label_at) IsLabel
unfolding label_at
writes_label name ts us i = by_rule 79 (Part 79) refl 0 refl (λ n. label_at) (writes_as (λ x. x.0) (writes_and (writes_name name ts i.0 i.1) (writes_mark mark.Colon i.2.0 i.0 us i.2.1))) (λ n cs. refl)

-- a `*` behind the `-` at this place
star_behind : Place → Take TerminatorKind
star_behind place rest = (kind.History place, behind (after rest))

writes_via : Each 83 (λ n. via_at) (λ v. Word word.Via ▸ Named v)
unfolding via_at
writes_via v ts us i = by_rule 83 (Part 83) refl 0 refl (λ n. via_at) (writes_as (λ x. x.1) (writes_and (writes_word word.Via i.1.0 ts i.0 i.1.1) (writes_name v i.0 us i.2))) (λ n cs. refl)

writes_dash : (dash : Place) (ts us : List Spanned) → Sign mark.Minus dash ts us → Writes SDL (Part 81 ∷ []) (λ n. target_at) (kind.Dash dash) ts us
unfolding target_at dash_at star_behind
writes_dash dash ts us i =
    by_rule 81 (Part 81) refl 0 refl (λ n. target_at)
    (writes_as (λ x. x.1) (writes_then (λ n p. dash_at p) (writes_mark mark.Minus dash ts us i) (writes_none (λ n. star_behind dash) (kind.Dash dash) us us refl))) (λ n cs. refl)

writes_history : (dash : Place) (ts us vs : List Spanned) → Sign mark.Minus dash ts us → Passed mark.Asterisk us vs → Writes SDL (Part 81 ∷ []) (λ n. target_at) (kind.History dash) ts vs
unfolding target_at dash_at star_behind
writes_history dash ts us vs i a =
    by_rule 81 (Part 81) refl 0 refl (λ n. target_at)
    (writes_as (λ x. x.1)
    (writes_then (λ n p. dash_at p) (writes_mark mark.Minus dash ts us i)
    (writes_some (kind.Dash dash) (by_rule 82 (Part 82) refl 0 refl (λ n. star_behind dash) (writes_as (λ p. kind.History dash) (writes_mark mark.Asterisk a.0 us vs a.1)) (λ n cs. refl))))) (λ n cs. refl)

writes_next : (state : Name) (via : Option Name) (ts us : List Spanned) → (Named state ▸ optional (λ v. Word word.Via ▸ Named v) via) ts us → Writes SDL (Part 81 ∷ []) (λ n. target_at) (kind.Next state via) ts us
unfolding target_at
writes_next state via ts us i =
    by_rule 81 (Part 81) refl 1 refl (λ n. target_at)
    (writes_as (λ x. kind.Next x.0 x.1) (writes_and (writes_name state ts i.0 i.1) (writes_maybe (λ n. via_at) _ writes_via via i.0 us i.2))) (λ n cs. refl)

writes_result : Each 84 result_at IsExpr
unfolding result_at
writes_result e ts us i = by_rule 84 (Part 84) refl 0 refl result_at (the_expr e ts us i) (λ n cs. refl)

writes_kind : (k : TerminatorKind) (place : Place) (ts us : List Spanned) → IsKind k place ts us → Writes SDL (Part 80 ∷ []) kind_at (place, k) ts us
unfolding kind_at
writes_kind (kind.Dash dash) place ts us i =
    by_rule 80 (Part 80) refl 0 refl kind_at (writes_and (writes_word word.Nextstate place ts i.0 i.1) (writes_dash dash i.0 us i.2)) (λ n cs. refl)
writes_kind (kind.History dash) place ts us i =
    by_rule 80 (Part 80) refl 0 refl kind_at (writes_and (writes_word word.Nextstate place ts i.0 i.1) (writes_history dash i.0 i.2.0 us i.2.1 i.2.2)) (λ n cs. refl)
writes_kind (kind.Next state via) place ts us i =
    by_rule 80 (Part 80) refl 0 refl kind_at (writes_and (writes_word word.Nextstate place ts i.0 i.1) (writes_next state via i.0 us i.2)) (λ n cs. refl)
writes_kind (kind.Join label) place ts us i =
    by_rule 80 (Part 80) refl 1 refl kind_at (writes_as (λ x. (x.0, kind.Join x.1)) (writes_and (writes_word word.Join place ts i.0 i.1) (writes_name label i.0 us i.2))) (λ n cs. refl)
writes_kind (kind.Return result) place ts us i =
    by_rule 80 (Part 80) refl 2 refl kind_at
    (writes_as (λ x. (x.0, kind.Return x.1)) (writes_and (writes_word word.Return place ts i.0 i.1) (writes_maybe result_at IsExpr writes_result result i.0 us i.2))) (λ n cs. refl)
writes_kind kind.Stop place ts us i = by_rule 80 (Part 80) refl 3 refl kind_at (writes_as (λ p. (p, kind.Stop)) (writes_word word.Stop place ts us i)) (λ n cs. refl)

pub keyword_not_first : (w : Keyword) (ts : List Spanned) → IsNotBefore (token.Keyword w) ts → IsNotFirst (kind_of_keyword w) (kinds_of ts)
keyword_not_first w [] not = tt
keyword_not_first w (t ∷ ts) not = λ e. not (keyword_is w t.token e)

name_not_first : (ts : List Spanned) → ((name : Name) → IsNotBefore (token.Name name.word) ts) → IsNotFirst 0 (kinds_of ts)
name_not_first [] not = tt
name_not_first (t ∷ ts) not = λ e. let i = name_is t.token e in not (record { place = t.place; word = i.word; spelling = i.spelt }) i.is

writes_no_step : (ts us : List Spanned) → NoStep ts us → Writes {X = Unit {0}} SDL (Part 88 ∷ []) (λ n rest. (tt, after rest)) tt ts us
writes_no_step ts us i =
    let none = i.1 in
    by_rule {X = Unit {0}} 88 (Part 88) refl 0 refl (λ n rest. (tt, after rest))
    (writes_not 0 (name_not_first ts none.label) (writes_not 75 (keyword_not_first word.Task ts none.task) (writes_not 58 (keyword_not_first word.Output ts none.output) (writes_not 28 (keyword_not_first word.Call ts none.call)
    (writes_not 34 (keyword_not_first word.Decision ts none.decision) (writes_not 54 (keyword_not_first word.Nextstate ts none.nextstate) (writes_not 52 (keyword_not_first word.Join ts none.join)
    (writes_not 65 (keyword_not_first word.Return ts none.«return») (writes_not 72 (keyword_not_first word.Stop ts none.stop) (writes_nothing tt ts us i.0)))))))))) (λ n cs. refl)

-- ---- transitions

abbrev TransitionRead : TransitionTree → Text
TransitionRead t ts us = Writes SDL (Part 85 ∷ []) transition_at t ts us

abbrev ActionRead : ActionTree → Place → Text
ActionRead a place ts us = Writes SDL (Part 89 ∷ []) (λ n. keyed_at n (transition_at n)) (place, a) ts us

abbrev UnlabelledRead : Option Name → StepText → Text
UnlabelledRead label x ts us = Writes SDL (Part 87 ∷ []) (λ n. unlabelled_at n (transition_at n) label) x ts us

abbrev StepRead : StepText → Text
StepRead x ts us = Writes SDL (Part 86 ∷ []) (λ n. step_at n (transition_at n)) x ts us

abbrev BranchRead : BranchTree → Text
BranchRead b ts us = Writes SDL (Part 92 ∷ []) (λ n. branch_at (transition_at n)) b ts us

abbrev ElseRead : ElseTree → Text
ElseRead o ts us = Writes SDL (Part 93 ∷ []) (λ n. otherwise_at (transition_at n)) o ts us

branch_read : (place : Place) (xs : List AnswerTree) (t : TransitionTree) (ts us vs ws ks zs : List Spanned) → Sign mark.LeftParenthesis place ts us → separated IsAnswer xs us vs → Passed mark.RightParenthesis vs ws → Passed mark.Colon ws ks
    → TransitionRead t ks zs → BranchRead (roll-BranchTree (record { place = place; answers = xs; transition = t })) ts zs
unfolding branch_at
branch_read place xs t ts us vs ws ks zs l i r c w =
    by_rule 92 (Part 92) refl 0 refl (λ n. branch_at (transition_at n))
    (writes_as (λ x. roll-BranchTree (record { place = x.0; answers = x.1.0; transition = x.1.1.1.1 }))
    (writes_and (writes_mark mark.LeftParenthesis place ts us l)
    (writes_and (writes_list mark.Comma 74 75 refl refl writes_answer writes_answer (Part 74) refl xs us vs i)
    (writes_and (writes_mark mark.RightParenthesis r.0 vs ws r.1) (writes_and (writes_mark mark.Colon c.0 ws ks c.1) w))))) (λ n cs. refl)

else_read : (place : Place) (t : TransitionTree) (ts us vs ws : List Spanned) → Reserved word.Else place ts us → Passed mark.Colon us vs → TransitionRead t vs ws → ElseRead (roll-ElseTree (record { place = place; transition = t })) ts ws
unfolding otherwise_at
else_read place t ts us vs ws r c w =
    by_rule 93 (Part 93) refl 0 refl (λ n. otherwise_at (transition_at n))
    (writes_as (λ x. roll-ElseTree (record { place = x.0; transition = x.1.1 })) (writes_and (writes_word word.Else place ts us r) (writes_and (writes_mark mark.Colon c.0 us vs c.1) w))) (λ n cs. refl)

decision_read : (q : QuestionTree) (e : EndTree) (bs : List BranchTree) (o : Option ElseTree) (ts us vs ws ks zs : List Spanned) → IsQuestion q ts us → IsEnd e us vs → each BranchRead bs vs ws → optional ElseRead o ws ks
    → Word word.Enddecision ks zs → Writes SDL (Part 91 ∷ []) (λ n. decision_at n (transition_at n)) (roll-DecisionTree (record { question = q; «end» = e; branches = bs; otherwise = o })) ts zs
unfolding decision_at
decision_read q e bs o ts us vs ws ks zs iq ie ib io w =
    by_rule 91 (Part 91) refl 0 refl (λ n. decision_at n (transition_at n))
    (writes_as (λ x. roll-DecisionTree (record { question = x.0; «end» = x.1.0; branches = x.1.1.0; otherwise = x.1.1.1.0 }))
    (writes_and (writes_question q ts us iq)
    (writes_and (writes_end e us vs ie)
    (writes_and (writes_all BranchRead (λ b xs ys r. r) bs vs ws ib)
    (writes_and (writes_maybe (λ n. otherwise_at (transition_at n)) ElseRead (λ b xs ys r. r) o ws ks io) (writes_word word.Enddecision w.0 ks zs w.1)))))) (λ n cs. refl)

task_of : (a : ActionTree) (ts us vs : List Spanned) (place : Place) → Reserved word.Task place ts us → Writes SDL (Part 90 ∷ []) task_at a us vs → ActionRead a place ts vs
unfolding keyed_at
task_of a ts us vs place r w = by_rule 89 (Part 89) refl 0 refl (λ n. keyed_at n (transition_at n)) (writes_and (writes_word word.Task place ts us r) w) (λ n cs. refl)

informal_task : (t : TextTree) (ts us : List Spanned) → Quoted t ts us → Writes SDL (Part 90 ∷ []) task_at (Informal t) ts us
unfolding task_at
informal_task t ts us i = by_rule 90 (Part 90) refl 0 refl task_at (writes_as Informal (writes_text t ts us i)) (λ n cs. refl)

assigning_task : (xs : List AssignTree) (ts us : List Spanned) → separated IsAssign xs ts us → Writes SDL (Part 90 ∷ []) task_at (Task xs) ts us
unfolding task_at
assigning_task xs ts us i = by_rule 90 (Part 90) refl 1 refl task_at (writes_as Task (writes_list mark.Comma 58 59 refl refl writes_assign writes_assign (Part 58) refl xs ts us i)) (λ n cs. refl)

outputs_read : (xs : List OutTree) (place : Place) (ts us vs : List Spanned) → Reserved word.Output place ts us → separated IsOut xs us vs → ActionRead (Output xs) place ts vs
unfolding keyed_at
outputs_read xs place ts us vs r i =
    by_rule 89 (Part 89) refl 1 refl (λ n. keyed_at n (transition_at n))
    (writes_as (λ x. (x.0, Output x.1)) (writes_and (writes_word word.Output place ts us r) (writes_list mark.Comma 67 68 refl refl writes_out writes_out (Part 67) refl xs us vs i))) (λ n cs. refl)

call_read : (c : CallTree) (place : Place) (ts us vs : List Spanned) → Reserved word.Call place ts us → IsCalled c us vs → ActionRead (Call c) place ts vs
unfolding keyed_at
call_read c place ts us vs r i =
    by_rule 89 (Part 89) refl 2 refl (λ n. keyed_at n (transition_at n)) (writes_as (λ x. (x.0, Call x.1)) (writes_and (writes_word word.Call place ts us r) (writes_called c us vs i))) (λ n cs. refl)

decided_read : (d : DecisionTree) (place : Place) (ts us vs : List Spanned) → Reserved word.Decision place ts us → Writes SDL (Part 91 ∷ []) (λ n. decision_at n (transition_at n)) d us vs → ActionRead (Decision d) place ts vs
unfolding keyed_at
decided_read d place ts us vs r w =
    by_rule 89 (Part 89) refl 3 refl (λ n. keyed_at n (transition_at n)) (writes_as (λ x. (x.0, Decision x.1)) (writes_and (writes_word word.Decision place ts us r) w)) (λ n cs. refl)

-- ---- steps

labelled_read : (label : Option Name) (x : StepText) (ts us vs : List Spanned) → optional IsLabel label ts us → UnlabelledRead label x us vs → StepRead x ts vs
unfolding step_at
labelled_read None x ts us vs e w =
    by_rule 86 (Part 86) refl 1 refl (λ n. step_at n (transition_at n)) (subst (λ (z : List Spanned). UnlabelledRead None x z vs) (sym e) w) (λ n cs. refl)
labelled_read (Some name) x ts us vs l w =
    by_rule 86 (Part 86) refl 0 refl (λ n. step_at n (transition_at n))
    (writes_as (λ y. y.1) (writes_then (λ n l. unlabelled_at n (transition_at n) (Some l)) (writes_label name ts us l) w)) (λ n cs. refl)

step_read : (label : Option Name) (place : Place) (a : ActionTree) (e : EndTree) (ts us vs ws : List Spanned) → optional IsLabel label ts us → ActionRead a place us vs → IsEnd e vs ws
    → StepRead (text.Step (record { label = label; place = place; action = a; «end» = e })) ts ws
unfolding unlabelled_at action_at
step_read label place a e ts us vs ws l w i =
    labelled_read label _ ts us ws l
    (by_rule 87 (Part 87) refl 0 refl (λ n. unlabelled_at n (transition_at n) label)
    (writes_as (λ x. text.Step (record { label = label; place = x.0.0; action = x.0.1; «end» = x.1 })) (writes_and w (writes_end e vs ws i))) (λ n cs. refl))

terminator_read : (t : TerminatorTree) (ts us : List Spanned) → IsTerminator t ts us → StepRead (text.Terminator t) ts us
unfolding unlabelled_at terminator_at
terminator_read t ts us i =
    labelled_read t.label _ ts i.0 us i.1
    (by_rule 87 (Part 87) refl 1 refl (λ n. unlabelled_at n (transition_at n) t.label)
    (writes_as (λ x. text.Terminator (record { label = t.label; place = x.0.0; kind = x.0.1; «end» = x.1.0 }))
    (writes_and (writes_kind t.kind t.place i.0 i.2.0 i.2.1) (writes_and (writes_end t.«end» i.2.0 i.2.2.0 i.2.2.1) (writes_no_step i.2.2.0 us i.2.2.2)))) (λ n cs. refl))

-- steps, and then what is read behind them
abbrev StepTurns : SoFar → SoFar → Text
StepTurns x z ts us = WritesTurns SDL 86 (λ n. onto_step n (transition_at n)) x z ts us

one_step : (t : SoFar) (x : StepText) {z : SoFar} (ts us vs : List Spanned) → StepRead x ts us → StepTurns (with_step t x) z us vs → StepTurns t z ts vs
unfolding onto_step
one_step t x ts us vs w others = one_turn (writes_as (with_step t) w) others

abbrev AStep : StepTree → Text
AStep s = StepRead (text.Step s)

step_turns : (ss before : List StepTree) {z : SoFar} (ts us vs : List Spanned) → each AStep ss ts us → StepTurns (before ++ ss, None) z us vs → StepTurns (before, None) z ts vs
step_turns [] before {z = z} ts us vs e k =
    subst (λ (x : List StepTree). StepTurns (x, None) z ts vs) (append-nil before) (subst (λ (x : List Spanned). StepTurns (before ++ [], None) z x vs) (sym e) k)
step_turns (s ∷ ss) before {z = z} ts us vs e k =
    one_step (before, None) (text.Step s) ts e.0 vs e.1
    (step_turns ss (before ++ s ∷ []) e.0 us vs e.2 (subst (λ (x : List StepTree). StepTurns (x, None) z us vs) (sym (append_assoc before (s ∷ []) ss)) k))

terminator_turn : (ss : List StepTree) (terminator : Option TerminatorTree) (ts us : List Spanned) → optional IsTerminator terminator ts us → StepTurns (ss, None) (ss, terminator) ts us
terminator_turn ss None ts us e = no_turn _ ts us e
terminator_turn ss (Some t) ts us i = one_step (ss, None) (text.Terminator t) ts us us (terminator_read t ts us i) (no_turn _ us us refl)

transition_read : (ss : List StepTree) (terminator : Option TerminatorTree) (ts us vs : List Spanned) → each AStep ss ts us → optional IsTerminator terminator us vs → TransitionRead (transition_of ss terminator) ts vs
unfolding transition_at transition_by
transition_read ss terminator ts us vs e i =
    writes_deeper 85 (Part 85) refl 0 _ refl transition_at
    (writes_as (λ t. transition_of t.0 t.1) (writes_onto (step_turns ss [] ts us vs e (terminator_turn ss terminator us vs i)))) (λ n cs. refl)

-- ---- the relations, each by the others

mutual
  transition_by_relation : {t : TransitionTree} {ts us : List Spanned} → IsTransition t ts us → TransitionRead t ts us
  transition_by_relation (transition ss terminator s i) = transition_read ss terminator _ _ _ (steps_by s) i

  steps_by : {ss : List StepTree} {ts us : List Spanned} → AreSteps ss ts us → each AStep ss ts us
  steps_by no_step = refl
  steps_by (more_steps s others) = (_, step_by s, steps_by others)

  step_by : {s : StepTree} {ts us : List Spanned} → IsStep s ts us → AStep s ts us
  step_by (step label place a e l i z) = step_read label place a e _ _ _ _ l (action_by i) z

  action_by : {a : ActionTree} {place : Place} {ts us : List Spanned} → IsAction a place ts us → ActionRead a place ts us
  action_by (informal t place r i) = task_of (Informal t) _ _ _ place r (informal_task t _ _ i)
  action_by (assignments xs place r i) = task_of (Task xs) _ _ _ place r (assigning_task xs _ _ i)
  action_by (outputs xs place r i) = outputs_read xs place _ _ _ r i
  action_by (called c place r i) = call_read c place _ _ _ r i
  action_by (decided d place r i) = decided_read d place _ _ _ r (decision_by i)

  decision_by : {d : DecisionTree} {ts us : List Spanned} → IsDecision d ts us → Writes SDL (Part 91 ∷ []) (λ n. decision_at n (transition_at n)) d ts us
  decision_by (decision q e bs o us iq ie ib io w) = decision_read q e bs o _ us _ _ _ _ iq ie (branches_by ib) (otherwise_by io) w

  branches_by : {bs : List BranchTree} {ts us : List Spanned} → AreBranches bs ts us → each BranchRead bs ts us
  branches_by no_branch = refl
  branches_by (more_branches b others) = (_, branch_by b, branches_by others)

  branch_by : {b : BranchTree} {ts us : List Spanned} → IsBranch b ts us → BranchRead b ts us
  branch_by (branch place xs t l i r c w) = branch_read place xs t _ _ _ _ _ _ l i r c (transition_by_relation w)

  otherwise_by : {o : Option ElseTree} {ts us : List Spanned} → IsOtherwise o ts us → optional ElseRead o ts us
  otherwise_by no_else = refl
  otherwise_by (an_else place t r c w) = else_read place t _ _ _ _ r c (transition_by_relation w)

-- each transition is read as what it is
pub writes_transition : Each 85 transition_at IsTransition
writes_transition t ts us i = transition_by_relation i

-- ---- connections and procedures

pub writes_connection : Each 94 connection_at IsConnection
unfolding connection_at
writes_connection c ts us i =
    let label = i.2 in let colon = label.2 in let t = colon.2 in let w = t.2 in
    by_rule 94 (Part 94) refl 0 refl connection_at
    (writes_as (λ x. record { place = x.0; label = x.1.0; transition = x.1.1.1.0; «end» = x.1.1.1.1.1 })
    (writes_and (writes_word word.Connection c.place ts i.0 i.1)
    (writes_and (writes_name c.label i.0 label.0 label.1)
    (writes_and (writes_mark mark.Colon colon.1.0 label.0 colon.0 colon.1.1)
    (writes_and (writes_transition c.transition colon.0 t.0 t.1)
    (writes_and (writes_word word.Endconnection w.1.0 t.0 w.0 w.1.1) (writes_end c.«end» w.0 us w.2))))))) (λ n cs. refl)

writes_body : Each 96 body_at IsBody
unfolding body_at own_body_at
writes_body (body.External place e) ts us i =
    by_rule 96 (Part 96) refl 0 refl body_at (writes_as (λ x. body.External x.0 x.1) (writes_and (writes_word word.External place ts i.0 i.1) (writes_end e i.0 us i.2))) (λ n cs. refl)
writes_body (body.Own dcls place e t connections closing) ts us i =
    let start = i.2 in let ended = start.2 in let tr = ended.2 in let cons = tr.2 in
    by_rule 96 (Part 96) refl 1 refl body_at
    (writes_as (λ x. body.Own x.0 x.1.0 x.1.1.0 x.1.1.1.0 x.1.1.1.1.0 x.1.1.1.1.1)
    (writes_and (writes_all IsDcl writes_dcl dcls ts i.0 i.1)
    (writes_and (writes_word word.Start place i.0 start.0 start.1)
    (writes_and (writes_end e start.0 ended.0 ended.1)
    (writes_and (writes_transition t ended.0 tr.0 tr.1)
    (writes_and (writes_all IsConnection writes_connection connections tr.0 cons.0 cons.1) (writes_closing word.Endprocedure closing cons.0 us cons.2))))))) (λ n cs. refl)

pub writes_procedure : Each 95 procedure_at IsProcedure
unfolding procedure_at
writes_procedure p ts us i =
    let name = i.2 in let ended = name.2 in let fpar = ended.2 in let returns = fpar.2 in
    by_rule 95 (Part 95) refl 0 refl procedure_at
    (writes_as (λ x. record { place = x.0; name = x.1.0; «end» = x.1.1.0; fpar = x.1.1.1.0; returns = x.1.1.1.1.0; body = x.1.1.1.1.1 })
    (writes_and (writes_word word.Procedure p.place ts i.0 i.1)
    (writes_and (writes_name p.name i.0 name.0 name.1)
    (writes_and (writes_end p.«end» name.0 ended.0 ended.1)
    (writes_and (writes_maybe (λ n. fpar_at) IsFpar writes_fpar p.fpar ended.0 fpar.0 fpar.1)
    (writes_and (writes_maybe (λ n. returns_at) IsReturns writes_returns p.returns fpar.0 returns.0 returns.1) (writes_body p.body returns.0 us returns.2))))))) (λ n cs. refl)
