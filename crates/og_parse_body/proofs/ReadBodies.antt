-- What is read as a declaration, an action, a transition or a procedure is one.
use Rattle.std.proofs.Common.{◌≡◌, ℕ, zero, suc, ◌≤◌, Bool, true, false, cond, List, [], ◌∷◌, ◌++◌, Option, Some, None, refl, sym, ap, subst, ◌∙◌, arith}
use Rattle.og_grammar.specs.declared.Nesting.{Nesting}
use Rattle.og_grammar.specs.declared.Symbol.{Symbol}
use Rattle.og_grammar.specs.declared.Symbol.TheVariants.{Token, Part, Scope, Maybe, Many, NotBefore}
use Rattle.og_grammar.specs.Sentence.{rules_of, IsNotFirst}
use Rattle.og_base.specs.declared.Place.{Place}
use Rattle.og_lexer.specs.declared.Keyword.{Keyword}
use Rattle.og_lexer.specs.declared.Keyword.TheVariants as word
use Rattle.og_lexer.specs.declared.Mark.TheVariants as mark
use Rattle.og_lexer.specs.declared.Spanned.{Spanned}
use Rattle.og_lexer.specs.declared.Token.{Token as TheToken}
use Rattle.og_lexer.specs.declared.Token.TheVariants as token
use Rattle.og_ast.specs.Names.{is_name}
use Rattle.og_ast.specs.declared.ground.Name.{Name}
use Rattle.og_ast.specs.declared.ground.TextTree.{TextTree}
use Rattle.og_ast.specs.declared.ground.ClosingTree.{ClosingTree}
use Rattle.og_ast.specs.declared.data.Passing.{Passing}
use Rattle.og_ast.specs.declared.data.Passing.TheVariants.{Unsaid, In, InOut}
use Rattle.og_ast.specs.declared.transition.AssignedTree.TheVariants as assigned
use Rattle.og_ast.specs.declared.transition.ArgTree.{ArgTree}
use Rattle.og_ast.specs.declared.transition.ArgTree.TheVariants as arg
use Rattle.og_ast.specs.declared.transition.QuestionTree.TheVariants as question
use Rattle.og_ast.specs.declared.transition.AnswerTree.{AnswerTree}
use Rattle.og_ast.specs.declared.transition.AnswerTree.TheVariants as answer
use Rattle.og_ast.specs.declared.transition.ConstTree.{ConstTree}
use Rattle.og_ast.specs.declared.transition.ConstTree.TheVariants as constant
use Rattle.og_ast.specs.declared.transition.TerminatorTree.{TerminatorTree}
use Rattle.og_ast.specs.declared.transition.TerminatorKind.{TerminatorKind}
use Rattle.og_ast.specs.declared.transition.TerminatorKind.TheVariants as kind
use Rattle.og_ast.specs.declared.transition.TransitionTree.{TransitionTree}
use Rattle.og_ast.specs.declared.transition.StepTree.{StepTree}
use Rattle.og_ast.specs.declared.transition.ActionTree.{ActionTree, Informal, Task, Output, Call, Decision}
use Rattle.og_ast.specs.declared.transition.DecisionTree.{DecisionTree, roll-DecisionTree}
use Rattle.og_ast.specs.declared.transition.BranchTree.{BranchTree, roll-BranchTree}
use Rattle.og_ast.specs.declared.transition.ElseTree.{ElseTree, roll-ElseTree}
use Rattle.og_ast.specs.declared.procedure.ProcedureBody.{ProcedureBody}
use Rattle.og_ast.specs.declared.procedure.ProcedureBody.TheVariants as body
use Rattle.og_sdl.specs.declared.table.TheConstants.{SDL}
use Rattle.og_reading.specs.Kinds.{kind_of_keyword, kind_of, kinds_of}
use Rattle.og_reading.specs.Reading.{Rest, Take, behind, after, place_in, name_in, maybe, onto, more_of, list_at, list_in_brackets, list_or_none}
use Rattle.og_reading.specs.Fronts.{Text, Stands, Reserved, Sign, Named, Numeral, Quoted, Word, Passed, nothing, ◌▸◌, optional, each, separated_by, separated, perhaps_separated, in_brackets, IsNotBefore}
use Rattle.og_reading.proofs.Deriving.{IsPart}
use Rattle.og_reading.proofs.ReadParts.{Reads, rule, Both, Before, Grown, reads_word, reads_mark, reads_name, reads_number, reads_text, reads_then, reads_as, reads_not, reads_nothing, reads_part, reads_deeper, reads_none, reads_option, reads_maybe, reads_onto, reads_more, reads_all}
use Rattle.og_reading.proofs.Lists.{reads_each, reads_list, reads_in_brackets, reads_or_none}
use Rattle.og_parse_expr.specs.Reading.{expr_at, var_at, relation_sign_at}
use Rattle.og_parse_expr.specs.Grammar.{IsExpr, IsVar, IsRelation}
use Rattle.og_parse_expr.proofs.Rules.{HasExpressions, has_all}
use Rattle.og_parse_expr.proofs.ReadExpressions.{reads_expr, reads_var, reads_relation, not_kind, not_in_front, in_front}
use Rattle.og_parse_body.specs.declared.transition.StepText.{StepText}
use Rattle.og_parse_body.specs.declared.transition.StepText.TheVariants as text
use Rattle.og_parse_body.specs.Reading.{name_at, hname_at, comment_at, end_at, own_name_at, closing_at, initial_at, declared_at, dcl_at, timer_at, and_out_at, passing_at, formal_at, fpar_at, returns_at, argument_at, args_at, called_at, assigned_at, assign_at, out_at, question_at, constant_at, upto_at, answer_at, label_at, dash_at, via_at, target_at, result_at, placed, kind_at, terminator_at, transition_of, SoFar, with_step, task_at, branch_at, otherwise_at, decision_at, keyed_at, action_at, unlabelled_at, step_at, onto_step, transition_by, transition_at, connection_at, own_body_at, body_at, procedure_at}
use Rattle.og_parse_body.specs.Grammar.{IsHname, IsEnd, AreNames, IsClosing, IsItem, IsDcl, IsTimer, IsPassing, IsFormal, IsFpar, IsReturns, IsArg, AreArgs, IsCalled, IsAssigned, IsAssign, IsOut, IsQuestion, IsConst, IsAnswer, IsLabel, IsKind, BeginsNoStep, NoStep, IsTerminator, IsTransition, transition, AreSteps, no_step, more_steps, IsStep, step, IsAction, informal, assignments, outputs, called, decided, IsDecision, decision, AreBranches, no_branch, more_branches, IsBranch, branch, IsOtherwise, no_else, an_else, IsConnection, IsBody, IsProcedure}

-- the table of SDL/PR has the productions of expressions
pub sdl_has : HasExpressions SDL
sdl_has = has_all SDL (refl, (refl, (refl, (refl, (refl, (refl, (refl, (refl, (refl, (refl, (refl, (refl, (refl, (refl, (refl, (refl, (refl, (refl, (refl, (refl, (refl, (refl, (refl, (refl, (refl, (refl, (refl, (refl, (refl, (refl, (refl, (refl, (refl, (refl, (refl, tt)))))))))))))))))))))))))))))))))))

-- a name is a token of the first kind
pub name_kind : (name : Name) → kind_of (token.Name name.word) ≡ 0
name_kind name = ap (λ (b : Bool). cond b 0 255) name.spelling

module _ (n : ℕ) where
  -- ---- names and ends

  pub hnames : (s : Symbol) → IsPart 36 s → Reads SDL n (s ∷ []) hname_at IsHname
  unfolding hname_at
  hnames s is = reads_as (λ ps. record { parts = ps }) IsHname (λ x ts us i. i) (reads_list mark.Minus 36 37 refl refl reads_name reads_name s is)

  comments : Reads SDL n (Part 39 ∷ []) comment_at (λ t. Word word.Comment ▸ Quoted t)
  unfolding comment_at
  comments = reads_part 39 (Part 39) refl (rule (reads_as (λ x. x.1) (λ t. Word word.Comment ▸ Quoted t) (λ x ts us b. (b.0, (x.0, b.1), b.2)) (reads_then (reads_word word.Comment) (λ p. reads_text)))) [] refl

  pub ends : Reads SDL n (Part 38 ∷ []) end_at IsEnd
  unfolding end_at
  ends = reads_part 38 (Part 38) refl (rule (reads_as (λ x. record { place = x.1; comment = x.0 }) IsEnd (λ x ts us b. b) (reads_then (reads_maybe comments) (λ c. reads_mark mark.Semicolon)))) [] refl

  pub name_lists : (s : Symbol) → IsPart 40 s → Reads SDL n (s ∷ []) (list_at name_at) AreNames
  name_lists s is = reads_list mark.Comma 40 41 refl refl reads_name reads_name s is

  pub own_names : Reads SDL n (Part 42 ∷ []) own_name_at Named
  unfolding own_name_at
  own_names = reads_part 42 (Part 42) refl (rule reads_name) [] refl

  -- behind an END keyword, with it
  pub closings : {nesting : Nesting} (w : Keyword) → Reads SDL n (Token (kind_of_keyword w) nesting ∷ Part 43 ∷ []) (λ rest. closing_at (place_in rest) (behind rest)) (λ c. Reserved w c.place ▸ IsClosing c)
  unfolding closing_at
  closings w =
      reads_as (λ x. record { place = x.0; name = x.1.0; «end» = x.1.1 }) (λ c. Reserved w c.place ▸ IsClosing c) (λ x ts us b. b)
      (reads_then (reads_word w) (λ p. reads_part 43 (Part 43) refl (rule (reads_then (reads_maybe own_names) (λ c. ends))) [] refl))

  -- ---- declarations

  initials : Reads SDL n (Part 48 ∷ []) (initial_at n) (λ e. Passed mark.Assign ▸ IsExpr e)
  unfolding initial_at
  initials =
      reads_part 48 (Part 48) refl
      (rule (reads_as (λ x. x.1) (λ e. Passed mark.Assign ▸ IsExpr e) (λ x ts us b. (b.0, (x.0, b.1), b.2)) (reads_then (reads_mark mark.Assign) (λ p. reads_expr SDL sdl_has n (Scope 1) refl)))) [] refl

  items : Reads SDL n (Part 47 ∷ []) (declared_at n) IsItem
  unfolding declared_at
  items =
      reads_part 47 (Part 47) refl
      (rule (reads_as (λ x. record { names = x.0; sort = x.1.0; initial = x.1.1 }) IsItem (λ x ts us b. b)
      (reads_then (name_lists (Part 40) refl) (λ ns. reads_then (hnames (Part 36) refl) (λ h. reads_maybe initials))))) [] refl

  pub dcls : Reads SDL n (Part 44 ∷ []) (dcl_at n) IsDcl
  unfolding dcl_at
  dcls =
      reads_part 44 (Part 44) refl
      (rule (reads_as (λ x. record { place = x.0; items = x.1.0; «end» = x.1.1 }) IsDcl (λ x ts us b. b)
      (reads_then (reads_word word.Dcl) (λ p. reads_then (reads_list mark.Comma 45 46 refl refl items items (Part 45) refl) (λ xs. ends))))) [] refl

  pub timers : Reads SDL n (Part 49 ∷ []) timer_at IsTimer
  unfolding timer_at
  timers =
      reads_part 49 (Part 49) refl
      (rule (reads_as (λ x. record { place = x.0; names = x.1.0; «end» = x.1.1 }) IsTimer (λ x ts us b. b)
      (reads_then (reads_word word.Timer) (λ p. reads_then (name_lists (Part 40) refl) (λ xs. ends))))) [] refl

  -- ---- parameters

  and_outs : Reads SDL n (Maybe 55 ∷ []) and_out_at (λ q ts us. (start : List Spanned) → Word word.In start ts → IsPassing q start us)
  unfolding and_out_at
  and_outs =
      reads_option In (λ ts start i. i)
      (reads_part 55 (Part 55) refl
      (rule (reads_as (λ x. InOut) _ (λ x ts us b start i. (ts, i, (b.0, (x.0, b.1), (x.1, b.2)))) (reads_then (reads_mark mark.Solidus) (λ p. reads_word word.Out)))) [] refl)

  passings : Reads SDL n (Maybe 54 ∷ []) passing_at IsPassing
  unfolding passing_at
  passings =
      reads_option Unsaid (λ ts. refl)
      (reads_part 54 (Part 54) refl (rule (reads_as (λ x. x.1) IsPassing (λ x ts us b. b.2 ts (x.0, b.1)) (reads_then (reads_word word.In) (λ p. and_outs)))) [] refl)

  formals : Reads SDL n (Part 53 ∷ []) formal_at IsFormal
  unfolding formal_at
  formals =
      reads_part 53 (Part 53) refl
      (rule (reads_as (λ x. record { passing = x.0; names = x.1.0; sort = x.1.1 }) IsFormal (λ x ts us b. b)
      (reads_then passings (λ q. reads_then (name_lists (Part 40) refl) (λ ns. hnames (Part 36) refl))))) [] refl

  fpars : Reads SDL n (Part 50 ∷ []) fpar_at IsFpar
  unfolding fpar_at
  fpars =
      reads_part 50 (Part 50) refl
      (rule (reads_as (λ x. record { place = x.0; formals = x.1.0; «end» = x.1.1 }) IsFpar (λ x ts us b. b)
      (reads_then (reads_word word.Fpar) (λ p. reads_then (reads_list mark.Comma 51 52 refl refl formals formals (Part 51) refl) (λ xs. ends))))) [] refl

  returns : Reads SDL n (Part 56 ∷ []) returns_at IsReturns
  unfolding returns_at
  returns =
      reads_part 56 (Part 56) refl
      (rule (reads_as (λ x. record { place = x.0; sort = x.1.0; «end» = x.1.1 }) IsReturns (λ x ts us b. b)
      (reads_then (reads_word word.Returns) (λ p. reads_then (hnames (Part 36) refl) (λ h. ends))))) [] refl

  -- ---- actions but decisions

  exprs : Reads SDL n (Scope 1 ∷ []) (expr_at n) IsExpr
  exprs = reads_expr SDL sdl_has n (Scope 1) refl

  arguments : Reads SDL n (Part 66 ∷ []) (argument_at n) IsArg
  unfolding argument_at
  arguments =
      reads_part 66 (Part 66) refl (rule (reads_as arg.Value IsArg (λ x ts us i. i) exprs)) (rule (reads_as arg.Text IsArg (λ x ts us i. i) reads_text) ∷ []) refl

  args : Reads SDL n (Part 63 ∷ []) (args_at n) AreArgs
  unfolding args_at
  args =
      reads_part 63 (Part 63) refl
      (rule (reads_as (λ x. x.1.0) AreArgs (λ x ts us b. (b.0, (x.0, b.1), (b.2.0, b.2.1, (x.1.1, b.2.2))))
      (reads_then (reads_mark mark.LeftParenthesis) (λ p.
      (reads_then (reads_or_none (argument_at n) 64 (reads_list mark.Comma 64 65 refl refl arguments arguments (Part 64) refl)) (λ xs. reads_mark mark.RightParenthesis)))))) [] refl

  calls : Reads SDL n (Part 62 ∷ []) (called_at n) IsCalled
  unfolding called_at
  calls =
      reads_part 62 (Part 62) refl (rule (reads_as (λ x. record { procedure = x.0; args = x.1 }) IsCalled (λ x ts us b. b) (reads_then reads_name (λ name. reads_maybe args)))) [] refl

  assigneds : Reads SDL n (Part 61 ∷ []) (assigned_at n) IsAssigned
  unfolding assigned_at
  assigneds =
      reads_part 61 (Part 61) refl (rule (reads_as (λ x. assigned.Call x.0 x.1) IsAssigned (λ x ts us b. b) (reads_then (reads_word word.Call) (λ p. calls))))
      (rule (reads_as assigned.Value IsAssigned (λ x ts us i. i) exprs) ∷ []) refl

  assigns : Reads SDL n (Part 60 ∷ []) (assign_at n) IsAssign
  unfolding assign_at
  assigns =
      reads_part 60 (Part 60) refl
      (rule (reads_as (λ x. record { target = x.0; value = x.1.1 }) IsAssign (λ x ts us b. (b.0, b.1, (b.2.0, (x.1.0, b.2.1), b.2.2)))
      (reads_then (reads_var SDL sdl_has n 57 (Scope 57) refl refl) (λ v. reads_then (reads_mark mark.Assign) (λ p. assigneds))))) [] refl

  outs : Reads SDL n (Part 69 ∷ []) (out_at n) IsOut
  unfolding out_at
  outs =
      reads_part 69 (Part 69) refl
      (rule (reads_as (λ x. record { signal = x.0; values = x.1 }) IsOut (λ x ts us b. b)
      (reads_then reads_name (λ name. reads_in_brackets (expr_at n) 70 refl (reads_list mark.Comma 71 72 refl refl exprs exprs (Part 71) refl))))) [] refl

  -- ---- questions and answers

  questions : Reads SDL n (Part 73 ∷ []) (question_at n) IsQuestion
  unfolding question_at
  questions =
      reads_part 73 (Part 73) refl (rule (reads_as question.Value IsQuestion (λ x ts us i. i) exprs))
      (rule (reads_as question.Any IsQuestion (λ x ts us i. i) (reads_word word.Any)) ∷ rule (reads_as question.Text IsQuestion (λ x ts us i. i) reads_text) ∷ []) refl

  constants : Reads SDL n (Part 78 ∷ []) constant_at IsConst
  unfolding constant_at
  constants =
      reads_part 78 (Part 78) refl
      (rule (reads_as (λ x. constant.Negative x.0 x.1.0) IsConst (λ x ts us b. (b.0, b.1, (x.1.1, b.2))) (reads_then (reads_mark mark.Minus) (λ p. reads_number))))
      (rule (reads_as (λ x. constant.Number x.1 x.0) IsConst (λ x ts us i. i) reads_number)
      ∷ rule (reads_as constant.Name IsConst (λ x ts us i. i) reads_name)
      ∷ rule (reads_as (λ p. constant.Truth p true) IsConst (λ x ts us i. i) (reads_word word.True))
      ∷ rule (reads_as (λ p. constant.Truth p false) IsConst (λ x ts us i. i) (reads_word word.False)) ∷ []) refl

  uptos : (low : ConstTree) → Reads SDL n (Maybe 77 ∷ []) (upto_at low) (λ a ts us. (start : List Spanned) → IsConst low start ts → IsAnswer a start us)
  unfolding upto_at
  uptos low =
      reads_option (answer.One low) (λ ts start i. i)
      (reads_part 77 (Part 77) refl (rule (reads_as (λ x. answer.Range low x.1) _ (λ x ts us b start i. (ts, i, (b.0, (x.0, b.1), b.2))) (reads_then (reads_mark mark.Colon) (λ p. constants)))) [] refl)

  answers : Reads SDL n (Scope 76 ∷ []) answer_at IsAnswer
  unfolding answer_at
  answers =
      reads_part 76 (Scope 76) refl (rule (reads_as (λ x. x.1) IsAnswer (λ x ts us b. b.2 ts b.1) (reads_then constants uptos)))
      (rule (reads_as (λ x. answer.Relation x.0.place x.0.relation x.1) IsAnswer (λ x ts us b. b) (reads_then (reads_relation SDL sdl_has n) (λ r. constants))) ∷ []) refl

  -- ---- terminators

  labels : Reads SDL n (Part 79 ∷ []) label_at IsLabel
  unfolding label_at
  labels = reads_part 79 (Part 79) refl (rule (reads_as (λ x. x.0) IsLabel (λ x ts us b. (b.0, b.1, (x.1, b.2))) (reads_then reads_name (λ name. reads_mark mark.Colon)))) [] refl

  -- behind NEXTSTATE
  abbrev Targets : TerminatorKind → Text
  Targets k ts us = (start : List Spanned) (place : Place) → Reserved word.Nextstate place start ts → IsKind k place start us

  dashes : (dash : Place) → Reads SDL n (Maybe 82 ∷ []) (dash_at dash) (λ k ts us. (start : List Spanned) → Sign mark.Minus dash start ts → Targets k start us)
  unfolding dash_at
  dashes dash =
      reads_option (kind.Dash dash) (λ ts start s first place r. (start, r, s))
      (reads_part 82 (Part 82) refl (rule (reads_as (λ p. kind.History dash) _ (λ p ts us b start s first place r. (start, r, (ts, s, (p, b)))) (reads_mark mark.Asterisk))) [] refl)

  vias : Reads SDL n (Part 83 ∷ []) via_at (λ v. Word word.Via ▸ Named v)
  unfolding via_at
  vias = reads_part 83 (Part 83) refl (rule (reads_as (λ x. x.1) (λ v. Word word.Via ▸ Named v) (λ x ts us b. (b.0, (x.0, b.1), b.2)) (reads_then (reads_word word.Via) (λ p. reads_name)))) [] refl

  targets : Reads SDL n (Part 81 ∷ []) target_at Targets
  unfolding target_at
  targets =
      reads_part 81 (Part 81) refl (rule (reads_as (λ x. x.1) Targets (λ x ts us b start place r. b.2 ts b.1 start place r) (reads_then (reads_mark mark.Minus) dashes)))
      (rule (reads_as (λ x. kind.Next x.0 x.1) Targets (λ x ts us b start place r. (ts, r, b)) (reads_then reads_name (λ name. reads_maybe vias))) ∷ []) refl

  results : Reads SDL n (Part 84 ∷ []) (result_at n) IsExpr
  unfolding result_at
  results = reads_part 84 (Part 84) refl (rule exprs) [] refl

  kinds : Reads SDL n (Part 80 ∷ []) (kind_at n) (λ x. IsKind x.1 x.0)
  unfolding kind_at
  kinds =
      reads_part 80 (Part 80) refl
      (rule (reads_as (λ x. x) (λ x. IsKind x.1 x.0) (λ x ts us b. b.2 ts x.0 b.1) (reads_then (reads_word word.Nextstate) (λ p. targets))))
      (rule (reads_as (λ x. (x.0, kind.Join x.1)) (λ x. IsKind x.1 x.0) (λ x ts us b. b) (reads_then (reads_word word.Join) (λ p. reads_name)))
      ∷ rule (reads_as (λ x. (x.0, kind.Return x.1)) (λ x. IsKind x.1 x.0) (λ x ts us b. b) (reads_then (reads_word word.Return) (λ p. reads_maybe results)))
      ∷ rule (reads_as (λ p. (p, kind.Stop)) (λ x. IsKind x.1 x.0) (λ x ts us b. b) (reads_word word.Stop)) ∷ []) refl

  -- no step in front: nothing is read
  no_step_read : Reads SDL n (Part 88 ∷ []) (λ rest. (tt, after rest)) (λ (x : Unit {0}). NoStep)
  no_step_read =
      reads_part 88 (Part 88) refl
      (rule (reads_as (λ (x : Unit {0}). x) (λ (x : Unit {0}). NoStep) (λ x ts us b. (
        b.1.1.1.1.1.1.1.1.1,
        record {
          label = λ name. not_kind (token.Name name.word) ts (subst (λ (k : ℕ). IsNotFirst k (kinds_of ts)) (sym (name_kind name)) b.0);
          task = not_kind (token.Keyword word.Task) ts b.1.0;
          output = not_kind (token.Keyword word.Output) ts b.1.1.0;
          call = not_kind (token.Keyword word.Call) ts b.1.1.1.0;
          decision = not_kind (token.Keyword word.Decision) ts b.1.1.1.1.0;
          nextstate = not_kind (token.Keyword word.Nextstate) ts b.1.1.1.1.1.0;
          join = not_kind (token.Keyword word.Join) ts b.1.1.1.1.1.1.0;
          «return» = not_kind (token.Keyword word.Return) ts b.1.1.1.1.1.1.1.0;
          stop = not_kind (token.Keyword word.Stop) ts b.1.1.1.1.1.1.1.1.0;
        },
      ))
      (reads_not 0 (reads_not 75 (reads_not 58 (reads_not 28 (reads_not 34 (reads_not 54 (reads_not 52 (reads_not 65 (reads_not 72 (reads_nothing tt (λ (x : Unit {0}). nothing) (λ ts. refl))))))))))))) [] refl

-- ---- transitions

-- a step, or the terminator
abbrev IsStepText : StepText → Text
IsStepText (text.Step s) ts us = IsStep s ts us
IsStepText (text.Terminator t) ts us = IsTerminator t ts us

-- behind a label, or where there is none
abbrev Labelled : Option Name → StepText → Text
Labelled label x ts us = (start : List Spanned) → optional IsLabel label start ts → IsStepText x start us

action_in_front : (a : ActionTree) (place : Place) (ts us : List Spanned) → IsAction a place ts us → BeginsNoStep ts → ⊥
action_in_front a place ts us (informal t p r q) none = in_front _ place ts _ r none.task
action_in_front a place ts us (assignments xs p r q) none = in_front _ place ts _ r none.task
action_in_front a place ts us (outputs xs p r q) none = in_front _ place ts _ r none.output
action_in_front a place ts us (called c p r q) none = in_front _ place ts _ r none.call
action_in_front a place ts us (decided d p r q) none = in_front _ place ts _ r none.decision

kind_in_front : (k : TerminatorKind) (place : Place) (ts us : List Spanned) → IsKind k place ts us → BeginsNoStep ts → ⊥
kind_in_front (kind.Dash dash) place ts us i none = in_front _ place ts i.0 i.1 none.nextstate
kind_in_front (kind.History dash) place ts us i none = in_front _ place ts i.0 i.1 none.nextstate
kind_in_front (kind.Next state via) place ts us i none = in_front _ place ts i.0 i.1 none.nextstate
kind_in_front (kind.Join label) place ts us i none = in_front _ place ts i.0 i.1 none.join
kind_in_front (kind.Return result) place ts us i none = in_front _ place ts i.0 i.1 none.«return»
kind_in_front kind.Stop place ts us i none = in_front _ place ts us i none.stop

-- a text behind a label, or without one, is not in front
labelled_in_front : (label : Option Name) (ts us : List Spanned) → optional IsLabel label ts us → BeginsNoStep ts → (BeginsNoStep us → ⊥) → ⊥
labelled_in_front None ts us e none go = go (subst BeginsNoStep e none)
labelled_in_front (Some name) ts us l none go = in_front _ name.place ts l.0 l.1 (none.label name)

step_in_front : (x : StepText) (ts us : List Spanned) → IsStepText x ts us → BeginsNoStep ts → ⊥
step_in_front (text.Step s) ts us (step label place a e {us = mid} {vs = last} l i z) none = labelled_in_front label ts mid l none (action_in_front a place mid last i)
step_in_front (text.Terminator t) ts us i none = labelled_in_front t.label ts i.0 i.1 none (kind_in_front t.kind t.place i.0 i.2.0 i.2.1)

steps_grown : (ss : List StepTree) (s : StepTree) (ts us vs : List Spanned) → AreSteps ss ts us → IsStep s us vs → AreSteps (ss ++ s ∷ []) ts vs
steps_grown [] s ts us vs no_step i = more_steps i no_step
steps_grown (x ∷ ss) s ts us vs (more_steps {us = mid} first others) i = more_steps first (steps_grown ss s mid us vs others i)

-- the steps, and then the terminator where it was met, cover these tokens
abbrev Covers : List Spanned → SoFar → List Spanned → Type 0
Covers start t ts = (mid : List Spanned) × AreSteps t.0 start mid × optional IsTerminator t.1 mid ts

covers_more : (start : List Spanned) (t : SoFar) (x : StepText) (ts us : List Spanned) → IsStepText x ts us → Covers start t ts → Covers start (with_step t x) us
covers_more start (steps, None) (text.Step s) ts us i c = (us, steps_grown steps s start ts us (subst (AreSteps steps start) c.2 c.1) i, refl)
covers_more start (steps, None) (text.Terminator e) ts us i c = (ts, subst (AreSteps steps start) c.2 c.1, i)
covers_more start (steps, Some t) x ts us i c = absurd (step_in_front x ts us i (subst BeginsNoStep c.2.2.2.2.0 c.2.2.2.2.1))

module _ (n : ℕ) (inner : Take TransitionTree) (inners : Reads SDL n (Part 85 ∷ []) inner IsTransition) where
  -- ---- decisions

  branches : Reads SDL n (Part 92 ∷ []) (branch_at inner) IsBranch
  unfolding branch_at
  branches =
      reads_part 92 (Part 92) refl
      (rule (reads_as (λ x. roll-BranchTree (record { place = x.0; answers = x.1.0; transition = x.1.1.1.1 })) IsBranch
      (λ x ts us b. branch x.0 x.1.0 x.1.1.1.1 b.1 b.2.1 (x.1.1.0, b.2.2.1) (x.1.1.1.0, b.2.2.2.1) b.2.2.2.2)
      (reads_then (reads_mark mark.LeftParenthesis) (λ p.
      (reads_then (reads_list mark.Comma 74 75 refl refl (answers n) (answers n) (Part 74) refl) (λ xs.
      (reads_then (reads_mark mark.RightParenthesis) (λ q. reads_then (reads_mark mark.Colon) (λ r. inners))))))))) [] refl

  otherwises : Reads SDL n (Part 93 ∷ []) (otherwise_at inner) (λ o. IsOtherwise (Some o))
  unfolding otherwise_at
  otherwises =
      reads_part 93 (Part 93) refl
      (rule (reads_as (λ x. roll-ElseTree (record { place = x.0; transition = x.1.1 })) (λ o. IsOtherwise (Some o)) (λ x ts us b. an_else x.0 x.1.1 b.1 (x.1.0, b.2.1) b.2.2)
      (reads_then (reads_word word.Else) (λ p. reads_then (reads_mark mark.Colon) (λ r. inners))))) [] refl

  are_branches : (bs : List BranchTree) (ts us : List Spanned) → each IsBranch bs ts us → AreBranches bs ts us
  are_branches [] ts us e = subst (AreBranches [] ts) e no_branch
  are_branches (b ∷ bs) ts us e = more_branches e.1 (are_branches bs e.0 us e.2)

  is_otherwise : (o : Option ElseTree) (ts us : List Spanned) → optional (λ x. IsOtherwise (Some x)) o ts us → IsOtherwise o ts us
  is_otherwise None ts us e = subst (IsOtherwise None ts) e no_else
  is_otherwise (Some o) ts us i = i

  decisions : Reads SDL n (Part 91 ∷ []) (decision_at n inner) IsDecision
  unfolding decision_at
  decisions =
      reads_part 91 (Part 91) refl
      (rule (reads_as (λ x. roll-DecisionTree (record { question = x.0; «end» = x.1.0; branches = x.1.1.0; otherwise = x.1.1.1.0 })) IsDecision
      (λ x ts us b. decision x.0 x.1.0 x.1.1.0 x.1.1.1.0 b.0 b.1 b.2.1 (are_branches x.1.1.0 b.2.0 b.2.2.0 b.2.2.1) (is_otherwise x.1.1.1.0 b.2.2.0 b.2.2.2.0 b.2.2.2.1) (x.1.1.1.1, b.2.2.2.2))
      (reads_then (questions n) (λ q. reads_then (ends n) (λ e. reads_then (reads_each (branches)) (λ bs. reads_then (reads_maybe otherwises) (λ o. reads_word word.Enddecision))))))) [] refl

  -- ---- actions

  tasks : Reads SDL n (Part 90 ∷ []) (task_at n) (λ a ts us. (start : List Spanned) (place : Place) → Reserved word.Task place start ts → IsAction a place start us)
  unfolding task_at
  tasks =
      reads_part 90 (Part 90) refl (rule (reads_as Informal _ (λ t ts us i start place r. informal t place r i) reads_text))
      (rule (reads_as Task _ (λ xs ts us i start place r. assignments xs place r i) (reads_list mark.Comma 58 59 refl refl (assigns n) (assigns n) (Part 58) refl)) ∷ []) refl

  actions : Reads SDL n (Part 89 ∷ []) (keyed_at n inner) (λ x. IsAction x.1 x.0)
  unfolding keyed_at
  actions =
      reads_part 89 (Part 89) refl
      (rule (reads_as (λ x. x) (λ x. IsAction x.1 x.0) (λ x ts us b. b.2 ts x.0 b.1) (reads_then (reads_word word.Task) (λ p. tasks))))
      (rule (reads_as (λ x. (x.0, Output x.1)) (λ x. IsAction x.1 x.0) (λ x ts us b. outputs x.1 x.0 b.1 b.2)
      (reads_then (reads_word word.Output) (λ p. reads_list mark.Comma 67 68 refl refl (outs n) (outs n) (Part 67) refl)))
      ∷ rule (reads_as (λ x. (x.0, Call x.1)) (λ x. IsAction x.1 x.0) (λ x ts us b. called x.1 x.0 b.1 b.2) (reads_then (reads_word word.Call) (λ p. calls n)))
      ∷ rule (reads_as (λ x. (x.0, Decision x.1)) (λ x. IsAction x.1 x.0) (λ x ts us b. decided x.1 x.0 b.1 b.2) (reads_then (reads_word word.Decision) (λ p. decisions))) ∷ []) refl

  -- ---- steps

  unlabelleds : (label : Option Name) → Reads SDL n (Part 87 ∷ []) (unlabelled_at n inner label) (Labelled label)
  unfolding unlabelled_at action_at terminator_at
  unlabelleds label =
      reads_part 87 (Part 87) refl
      (rule (reads_as (λ x. text.Step (record { label = label; place = x.0.0; action = x.0.1; «end» = x.1 })) (Labelled label)
      (λ x ts us b start l. step label x.0.0 x.0.1 x.1 l b.1 b.2) (reads_then actions (λ a. ends n))))
      (rule (reads_as (λ x. text.Terminator (record { label = label; place = x.0.0; kind = x.0.1; «end» = x.1.0 })) (Labelled label)
      (λ x ts us b start l. (ts, l, b)) (reads_then (kinds n) (λ k. reads_then (ends n) (λ e. no_step_read n)))) ∷ []) refl

  steps : Reads SDL n (Part 86 ∷ []) (step_at n inner) IsStepText
  unfolding step_at
  steps =
      reads_part 86 (Part 86) refl (rule (reads_as (λ x. x.1) IsStepText (λ x ts us b. b.2 ts b.1) (reads_then (labels n) (λ l. unlabelleds (Some l)))))
      (rule (reads_as (λ x. x) IsStepText (λ x ts us i. i ts refl) (unlabelleds None)) ∷ []) refl

  onto_steps : (start : List Spanned) (t : SoFar) → Reads SDL n (Part 86 ∷ []) (onto_step n inner t) (λ u ts us. Covers start t ts → Covers start u us)
  unfolding onto_step
  onto_steps start t = reads_as (with_step t) _ (λ x ts us i c. covers_more start t x ts us i c) steps

  -- steps from a place on, and their terminator
  step_lists : (start : List Spanned) → Reads SDL n (Many 86 ∷ []) (onto (onto_step n inner) ([], None)) (λ t ts us. Covers start ([], None) ts → Covers start t us)
  step_lists start = reads_onto (Covers start) (onto_steps start) ([], None)

  transitions : Reads SDL (suc n) (Part 85 ∷ []) (transition_by n inner) IsTransition
  unfolding transition_by
  transitions =
      reads_deeper 85 (Part 85) refl
      (rule (reads_as (λ t. transition_of t.0 t.1) IsTransition (λ t ts us all. (let c = all ts (ts, no_step, refl) in transition t.0 t.1 c.1 c.2)) (reads_all step_lists))) [] refl

-- what is read as a transition is one
pub reads_transition : (n : ℕ) → Reads SDL n (Part 85 ∷ []) (transition_at n) IsTransition
unfolding transition_at
reads_transition zero = reads_none 85 (Part 85) refl
reads_transition (suc n) = transitions n (transition_at n) (reads_transition n)

-- ---- connections and procedures

module _ (n : ℕ) where
  pub connections : Reads SDL n (Part 94 ∷ []) (connection_at n) IsConnection
  unfolding connection_at
  connections =
      reads_part 94 (Part 94) refl
      (rule (reads_as (λ x. record { place = x.0; label = x.1.0; transition = x.1.1.1.0; «end» = x.1.1.1.1.1 }) IsConnection
      (λ x ts us b. (b.0, b.1, (b.2.0, b.2.1, (b.2.2.0, (x.1.1.0, b.2.2.1), (b.2.2.2.0, b.2.2.2.1, (b.2.2.2.2.0, (x.1.1.1.1.0, b.2.2.2.2.1), b.2.2.2.2.2))))))
      (reads_then (reads_word word.Connection) (λ p. reads_then reads_name (λ l. reads_then (reads_mark mark.Colon) (λ q.
      (reads_then (reads_transition n) (λ t. reads_then (reads_word word.Endconnection) (λ c. ends n))))))))) [] refl

  procedure_bodies : Reads SDL n (Part 96 ∷ []) (body_at n) IsBody
  unfolding body_at own_body_at
  procedure_bodies =
      reads_part 96 (Part 96) refl (rule (reads_as (λ x. body.External x.0 x.1) IsBody (λ x ts us b. b) (reads_then (reads_word word.External) (λ p. ends n))))
      (rule (reads_as (λ x. body.Own x.0 x.1.0 x.1.1.0 x.1.1.1.0 x.1.1.1.1.0 x.1.1.1.1.1) IsBody (λ x ts us b. b)
      (reads_then (reads_each (dcls n)) (λ ds. reads_then (reads_word word.Start) (λ p. reads_then (ends n) (λ e.
      (reads_then (reads_transition n) (λ t. reads_then (reads_each connections) (λ cs. closings n word.Endprocedure)))))))) ∷ []) refl

  pub procedures : Reads SDL n (Part 95 ∷ []) (procedure_at n) IsProcedure
  unfolding procedure_at
  procedures =
      reads_part 95 (Part 95) refl
      (rule (reads_as (λ x. record { place = x.0; name = x.1.0; «end» = x.1.1.0; fpar = x.1.1.1.0; returns = x.1.1.1.1.0; body = x.1.1.1.1.1 }) IsProcedure (λ x ts us b. b)
      (reads_then (reads_word word.Procedure) (λ p. reads_then reads_name (λ name. reads_then (ends n) (λ e.
      (reads_then (reads_maybe (fpars n)) (λ f. reads_then (reads_maybe (returns n)) (λ r. procedure_bodies))))))))) [] refl
