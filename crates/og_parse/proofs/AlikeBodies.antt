-- Declarations, transitions and procedures that are made of the same choices and the same tokens differ in places alone.
use Rattle.std.proofs.Common.{◌≡◌, ℕ, zero, suc, Bool, true, false, List, [], ◌∷◌, Option, Some, None, refl, ap}
use Rattle.og_base.specs.declared.Place.{Place}
use Rattle.og_ast.specs.declared.ground.Name.{Name}
use Rattle.og_ast.specs.declared.expression.ExprTree.{ExprTree}
use Rattle.og_ast.specs.declared.data.Passing.{Passing}
use Rattle.og_ast.specs.declared.transition.ConstTree.{ConstTree}
use Rattle.og_ast.specs.declared.transition.ActionTree.{ActionTree}
use Rattle.og_ast.specs.declared.transition.TerminatorKind.{TerminatorKind}
use Rattle.og_ast.specs.declared.transition.TerminatorTree.{TerminatorTree}
use Rattle.og_ast.specs.declared.transition.TransitionTree.{TransitionTree}
use Rattle.og_ast.specs.declared.transition.StepTree.{StepTree}
use Rattle.og_ast.specs.declared.transition.BranchTree.{BranchTree}
use Rattle.og_ast.specs.declared.transition.ElseTree.{ElseTree, roll-ElseTree}
use Rattle.og_reading.specs.Reading.{Rest, Take, behind, after, onto}
use Rattle.og_parse_expr.specs.Reading.{expr_at, relation_sign_at}
use Rattle.og_parse_body.specs.declared.transition.StepText.{StepText}
use Rattle.og_parse_body.specs.declared.transition.StepText.TheVariants as text
use Rattle.og_parse_body.specs.Reading.{name_at, hname_at, comment_at, end_at, own_name_at, closing_at, initial_at, declared_at, dcl_at, timer_at, and_out_at, passing_at, formal_at, fpar_at, returns_at, argument_at, args_at, called_at, assigned_at, assign_at, out_at, question_at, constant_at, upto_at, answer_at, label_at, dash_at, via_at, target_at, result_at, placed, kind_at, terminator_at, SoFar, with_step, task_at, branch_at, otherwise_at, decision_at, keyed_at, action_at, unlabelled_at, step_at, onto_step, transition_by, transition_at, connection_at, own_body_at, body_at, procedure_at}
use Rattle.og_parse.specs.Alike.{Alike, Maybe, OneName, OneHname, OneText, OneEnd, OneClosing, OneExpr, OneItem, OneDcl, OneTimer, OneFormal, OneFpar, OneReturns, OneArg, OneCall, OneAssigned, OneAssign, OneOut, OneQuestion, one_value, one_any, one_text, OneConst, const_number, const_negative, const_name, const_truth, OneAnswer, answer_one, answer_range, answer_relation, OneKind, kind_dash, kind_history, kind_next, kind_join, kind_return, kind_stop, OneTerminator, OneTransition, one_transition, OneSteps, no_step, more_steps, OneStep, one_step, OneAction, one_informal, one_task, one_output, one_call, one_decision, OneDecision, one_decided, OneBranches, no_branch, more_branches, OneBranch, one_branch, OneElse, no_else, an_else, OneConnection, OneBody, body_external, body_own, OneProcedure}
use Rattle.og_parse.proofs.Beside.{Beside, on, past, one_number, one_name, Fit, Agree, either, one_more, agree_maybe, agree_onto, agree_more, agree_list, agree_in_brackets, agree_or_none}
use Rattle.og_parse.proofs.Beside as beside
use Rattle.og_parse.proofs.AlikeExpressions.{agree_relation_sign, one_expr_at, one_var_at}

-- ---- names and ends

pub agree_name : Agree OneName name_at name_at
agree_name = record { by = λ r s b. record { is = one_name b; left = past b } }

pub agree_hname : Agree OneHname hname_at hname_at
unfolding hname_at
agree_hname = record { by = λ r s b. let f = (agree_list agree_name).by r s b in record { is = f.is; left = f.left } }

agree_comment : Agree OneText comment_at comment_at
unfolding comment_at
agree_comment = record { by = λ r s b. record { is = beside.one_text (past (on b)); left = past (past (on b)) } }

pub agree_end : Agree OneEnd end_at end_at
unfolding end_at
agree_end = record { by = λ r s b. let f = (agree_maybe agree_comment).by (after r) (after s) (on b) in record { is = f.is; left = past f.left } }

pub agree_own_name : Agree OneName own_name_at own_name_at
unfolding own_name_at
agree_own_name = record { by = λ r s b. record { is = one_name (on b); left = past (on b) } }

pub agree_closing : (p q : Place) → Agree OneClosing (closing_at p) (closing_at q)
unfolding closing_at
agree_closing p q = record {
  by = λ r s b.
      let f = (agree_maybe agree_own_name).by (after r) (after s) (on b) in
      let e = agree_end.by _ _ f.left in
      record { is = (f.is, e.is); left = e.left };
}

-- ---- declarations

agree_initial : (n : ℕ) → Agree OneExpr (initial_at n) (initial_at n)
unfolding initial_at
agree_initial n = record { by = λ r s b. (one_expr_at n).by (behind (after r)) (behind (after s)) (past (on b)) }

agree_declared : (n : ℕ) → Agree OneItem (declared_at n) (declared_at n)
unfolding declared_at
agree_declared n = record {
  by = λ r s b.
      let names = (agree_list agree_name).by (after r) (after s) (on b) in
      let sort = agree_hname.by _ _ names.left in
      let initial = (agree_maybe (agree_initial n)).by _ _ sort.left in
      record { is = (names.is, sort.is, initial.is); left = initial.left };
}

pub agree_dcl : (n : ℕ) → Agree OneDcl (dcl_at n) (dcl_at n)
unfolding dcl_at
agree_dcl n = record {
  by = λ r s b.
      let items = (agree_list (agree_declared n)).by (behind (after r)) (behind (after s)) (past (on b)) in
      let e = agree_end.by _ _ items.left in
      record { is = (items.is, e.is); left = e.left };
}

pub agree_timer : Agree OneTimer timer_at timer_at
unfolding timer_at
agree_timer = record {
  by = λ r s b.
      let names = (agree_list agree_name).by (behind (after r)) (behind (after s)) (past (on b)) in
      let e = agree_end.by _ _ names.left in
      record { is = (names.is, e.is); left = e.left };
}

-- ---- parameters

abbrev OnePassing : Passing → Passing → Type 0
OnePassing a b = a ≡ b

agree_and_out : Agree OnePassing and_out_at and_out_at
unfolding and_out_at
agree_and_out = record { by = λ r s b. either 1 b (record { is = refl; left = past (past (on (on b))) }) (record { is = refl; left = on b }) }

agree_passing : Agree OnePassing passing_at passing_at
unfolding passing_at
agree_passing = record { by = λ r s b. either 1 b (agree_and_out.by (behind (after (after r))) (behind (after (after s))) (past (on (on b)))) (record { is = refl; left = on b }) }

agree_formal : Agree OneFormal formal_at formal_at
unfolding formal_at
agree_formal = record {
  by = λ r s b.
      let passing = agree_passing.by (after r) (after s) (on b) in
      let names = (agree_list agree_name).by _ _ passing.left in
      let sort = agree_hname.by _ _ names.left in
      record { is = (passing.is, names.is, sort.is); left = sort.left };
}

agree_fpar : Agree OneFpar fpar_at fpar_at
unfolding fpar_at
agree_fpar = record {
  by = λ r s b.
      let formals = (agree_list agree_formal).by (behind (after r)) (behind (after s)) (past (on b)) in
      let e = agree_end.by _ _ formals.left in
      record { is = (formals.is, e.is); left = e.left };
}

agree_returns : Agree OneReturns returns_at returns_at
unfolding returns_at
agree_returns = record {
  by = λ r s b.
      let sort = agree_hname.by (behind (after r)) (behind (after s)) (past (on b)) in
      let e = agree_end.by _ _ sort.left in
      record { is = (sort.is, e.is); left = e.left };
}

-- ---- assignments, outputs and calls

agree_argument : (n : ℕ) → Agree OneArg (argument_at n) (argument_at n)
unfolding argument_at
agree_argument n = record {
  by = λ r s b.
      let f = (one_expr_at n).by (after r) (after s) (on b) in
      either 0 b (record { is = f.is; left = f.left }) (record { is = beside.one_text (on b); left = past (on b) });
}

agree_args : (n : ℕ) → Agree (Alike OneArg) (args_at n) (args_at n)
unfolding args_at
agree_args n = record {
  by = λ r s b.
      let f = (agree_or_none (agree_argument n)).by (behind (after r)) (behind (after s)) (past (on b)) in
      record { is = f.is; left = past f.left };
}

agree_called : (n : ℕ) → Agree OneCall (called_at n) (called_at n)
unfolding called_at
agree_called n = record {
  by = λ r s b.
      let f = (agree_maybe (agree_args n)).by (behind (after r)) (behind (after s)) (past (on b)) in
      record { is = (one_name (on b), f.is); left = f.left };
}

agree_assigned : (n : ℕ) → Agree OneAssigned (assigned_at n) (assigned_at n)
unfolding assigned_at
agree_assigned n = record {
  by = λ r s b.
      let c = (agree_called n).by (behind (after r)) (behind (after s)) (past (on b)) in
      let e = (one_expr_at n).by (after r) (after s) (on b) in
      either 0 b (record { is = c.is; left = c.left }) (record { is = e.is; left = e.left });
}

agree_assign : (n : ℕ) → Agree OneAssign (assign_at n) (assign_at n)
unfolding assign_at
agree_assign n = record {
  by = λ r s b.
      let target = (one_var_at n).by (after r) (after s) (on b) in
      let value = (agree_assigned n).by _ _ (past target.left) in
      record { is = (target.is, value.is); left = value.left };
}

agree_out : (n : ℕ) → Agree OneOut (out_at n) (out_at n)
unfolding out_at
agree_out n = record {
  by = λ r s b.
      let f = (agree_in_brackets (one_expr_at n)).by (behind (after r)) (behind (after s)) (past (on b)) in
      record { is = (one_name (on b), f.is); left = f.left };
}

-- ---- questions and answers

agree_question : (n : ℕ) → Agree OneQuestion (question_at n) (question_at n)
unfolding question_at
agree_question n = record {
  by = λ r s b.
      let f = (one_expr_at n).by (after r) (after s) (on b) in
      either 0 b (record { is = one_value f.is; left = f.left })
      (either 1 b (record { is = one_any _ _; left = past (on b) }) (record { is = one_text _ _ (beside.one_text (on b)); left = past (on b) }));
}

agree_constant : Agree OneConst constant_at constant_at
unfolding constant_at
agree_constant = record {
  by = λ r s b.
      either 0 b (record { is = const_negative _ _ (one_number (past (on b))); left = past (past (on b)) })
      (either 1 b (record { is = const_number _ _ (one_number (on b)); left = past (on b) })
      (either 2 b (record { is = const_name _ _ (one_name (on b)); left = past (on b) })
      (either 3 b (record { is = const_truth _ _ true; left = past (on b) }) (record { is = const_truth _ _ false; left = past (on b) }))));
}

agree_upto : (x y : ConstTree) → OneConst x y → Agree OneAnswer (upto_at x) (upto_at y)
unfolding upto_at
agree_upto x y i = record {
  by = λ r s b.
      let f = agree_constant.by (behind (after (after r))) (behind (after (after s))) (past (on (on b))) in
      either 1 b (record { is = answer_range i f.is; left = f.left }) (record { is = answer_one i; left = on b });
}

agree_answer : Agree OneAnswer answer_at answer_at
unfolding answer_at
agree_answer = record {
  by = λ r s b.
      let c = agree_constant.by (after r) (after s) (on b) in
      let g = agree_relation_sign.by (after r) (after s) (on b) in
      let d = agree_constant.by _ _ g.left in
      either 0 b ((agree_upto _ _ c.is).by _ _ c.left) (record { is = answer_relation _ _ g.is d.is; left = d.left });
}

-- ---- terminators

agree_label : Agree OneName label_at label_at
unfolding label_at
agree_label = record { by = λ r s b. record { is = one_name (on b); left = past (past (on b)) } }

agree_dash : (p q : Place) → Agree OneKind (dash_at p) (dash_at q)
unfolding dash_at
agree_dash p q = record { by = λ r s b. either 1 b (record { is = kind_history p q; left = past (on (on b)) }) (record { is = kind_dash p q; left = on b }) }

agree_via : Agree OneName via_at via_at
unfolding via_at
agree_via = record { by = λ r s b. record { is = one_name (past (on b)); left = past (past (on b)) } }

agree_target : Agree OneKind target_at target_at
unfolding target_at
agree_target = record {
  by = λ r s b.
      let via = (agree_maybe agree_via).by (behind (after r)) (behind (after s)) (past (on b)) in
      either 0 b ((agree_dash _ _).by (behind (after r)) (behind (after s)) (past (on b))) (record { is = kind_next _ _ _ _ (one_name (on b)) via.is; left = via.left });
}

agree_result : (n : ℕ) → Agree OneExpr (result_at n) (result_at n)
unfolding result_at
agree_result n = record { by = λ r s b. (one_expr_at n).by (after r) (after s) (on b) }

-- with a place that may be another one
abbrev Placed : {X : Type 0} → (X → X → Type 0) → (Place × X) → (Place × X) → Type 0
Placed Is a b = Is a.1 b.1

agree_kind : (n : ℕ) → Agree (Placed OneKind) (kind_at n) (kind_at n)
unfolding kind_at
agree_kind n = record {
  by = λ r s b.
      let c = past (on b) in
      let f = agree_target.by (behind (after r)) (behind (after s)) c in
      let result = (agree_maybe (agree_result n)).by (behind (after r)) (behind (after s)) c in
      either 0 b (record { is = f.is; left = f.left })
      (either 1 b (record { is = kind_join _ _ (one_name c); left = past c })
      (either 2 b (record { is = kind_return _ _ result.is; left = result.left }) (record { is = kind_stop; left = c })));
}

agree_terminator : (n : ℕ) (l m : Option Name) → Maybe OneName l m → Agree OneTerminator (terminator_at n l) (terminator_at n m)
unfolding terminator_at
agree_terminator n l m i = record {
  by = λ r s b.
      let k = (agree_kind n).by r s b in
      let e = agree_end.by _ _ k.left in
      record { is = (i, k.is, e.is); left = e.left };
}

-- ---- transitions

-- what reads the transitions further inside
abbrev Same : Take TransitionTree → Type 0
Same transition = Agree OneTransition transition transition

steps_of : (ss ts : List StepTree) → Alike OneStep ss ts → OneSteps ss ts
steps_of [] [] a = no_step
steps_of [] (t ∷ ts) a = absurd a
steps_of (s ∷ ss) [] a = absurd a
steps_of (s ∷ ss) (t ∷ ts) a = more_steps a.0 (steps_of ss ts a.1)

branches_of : (bs cs : List BranchTree) → Alike OneBranch bs cs → OneBranches bs cs
branches_of [] [] a = no_branch
branches_of [] (c ∷ cs) a = absurd a
branches_of (b ∷ bs) [] a = absurd a
branches_of (b ∷ bs) (c ∷ cs) a = more_branches a.0 (branches_of bs cs a.1)

data OneElseTree : ElseTree → ElseTree → Type 0 where
  one_else : (p q : Place) {s t : TransitionTree} → OneTransition s t → OneElseTree (roll-ElseTree (record { place = p; transition = s })) (roll-ElseTree (record { place = q; transition = t }))

else_tree : {a b : ElseTree} → OneElseTree a b → OneElse (Some a) (Some b)
else_tree (one_else p q i) = an_else p q i

else_of : (a b : Option ElseTree) → Maybe OneElseTree a b → OneElse a b
else_of None None i = no_else
else_of None (Some b) i = absurd i
else_of (Some a) None i = absurd i
else_of (Some a) (Some b) i = else_tree i

agree_task : (n : ℕ) → Agree OneAction (task_at n) (task_at n)
unfolding task_at
agree_task n = record {
  by = λ r s b.
      let f = (agree_list (agree_assign n)).by (after r) (after s) (on b) in
      either 0 b (record { is = one_informal _ _ (beside.one_text (on b)); left = past (on b) }) (record { is = one_task _ _ f.is; left = f.left });
}

agree_branch : {transition : Take TransitionTree} → Same transition → Agree OneBranch (branch_at transition) (branch_at transition)
unfolding branch_at
agree_branch i = record {
  by = λ r s b.
      let answers = (agree_list agree_answer).by (behind (after r)) (behind (after s)) (past (on b)) in
      let t = i.by _ _ (past (past answers.left)) in
      record { is = one_branch _ _ _ _ answers.is t.is; left = t.left };
}

agree_otherwise : {transition : Take TransitionTree} → Same transition → Agree OneElseTree (otherwise_at transition) (otherwise_at transition)
unfolding otherwise_at
agree_otherwise i = record {
  by = λ r s b.
      let t = i.by (behind (behind (after r))) (behind (behind (after s))) (past (past (on b))) in
      record { is = one_else _ _ t.is; left = t.left };
}

agree_decision : (n : ℕ) {transition : Take TransitionTree} → Same transition → Agree OneDecision (decision_at n transition) (decision_at n transition)
unfolding decision_at
agree_decision n i = record {
  by = λ r s b.
      let q = (agree_question n).by (after r) (after s) (on b) in
      let e = agree_end.by _ _ q.left in
      let bs = (agree_more (agree_branch i) [] [] tt).by _ _ e.left in
      let o = (agree_maybe (agree_otherwise i)).by _ _ bs.left in
      record { is = one_decided _ _ q.is e.is (branches_of _ _ bs.is) (else_of _ _ o.is); left = past o.left };
}

agree_keyed : (n : ℕ) {transition : Take TransitionTree} → Same transition → Agree (Placed OneAction) (keyed_at n transition) (keyed_at n transition)
unfolding keyed_at
agree_keyed n i = record {
  by = λ r s b.
      let c = past (on b) in
      let task = (agree_task n).by (behind (after r)) (behind (after s)) c in
      let outs = (agree_list (agree_out n)).by (behind (after r)) (behind (after s)) c in
      let call = (agree_called n).by (behind (after r)) (behind (after s)) c in
      let decision = (agree_decision n i).by (behind (after r)) (behind (after s)) c in
      either 0 b (record { is = task.is; left = task.left })
      (either 1 b (record { is = one_output _ _ outs.is; left = outs.left })
      (either 2 b (record { is = one_call _ _ call.is; left = call.left }) (record { is = one_decision decision.is; left = decision.left })));
}

agree_action : (n : ℕ) {transition : Take TransitionTree} → Same transition → (l m : Option Name) → Maybe OneName l m → Agree OneStep (action_at n transition l) (action_at n transition m)
unfolding action_at
agree_action n i l m same = record {
  by = λ r s b.
      let a = (agree_keyed n i).by r s b in
      let e = agree_end.by _ _ a.left in
      record { is = one_step _ _ l m _ _ same a.is e.is; left = e.left };
}

data OneStepText : StepText → StepText → Type 0 where
  a_step : {a b : StepTree} → OneStep a b → OneStepText (text.Step a) (text.Step b)
  a_terminator : (a b : TerminatorTree) → OneTerminator a b → OneStepText (text.Terminator a) (text.Terminator b)

agree_unlabelled : (n : ℕ) {transition : Take TransitionTree} → Same transition → (l m : Option Name) → Maybe OneName l m → Agree OneStepText (unlabelled_at n transition l) (unlabelled_at n transition m)
unfolding unlabelled_at
agree_unlabelled n i l m same = record {
  by = λ r s b.
      let a = (agree_action n i l m same).by (after r) (after s) (on b) in
      let t = (agree_terminator n l m same).by (after r) (after s) (on b) in
      either 0 b (record { is = a_step a.is; left = a.left }) (record { is = a_terminator _ _ t.is; left = on t.left });
}

agree_step : (n : ℕ) {transition : Take TransitionTree} → Same transition → Agree OneStepText (step_at n transition) (step_at n transition)
unfolding step_at
agree_step n i = record {
  by = λ r s b.
      let l = agree_label.by (after r) (after s) (on b) in
      either 0 b ((agree_unlabelled n i (Some (label_at (after r)).0) (Some (label_at (after s)).0) l.is).by _ _ l.left) ((agree_unlabelled n i None None tt).by (after r) (after s) (on b));
}

record OneSoFar (a b : SoFar) : Type 0 where
  steps : Alike OneStep a.0 b.0
  terminator : Maybe OneTerminator a.1 b.1

with_alike : (a b : SoFar) {x y : StepText} → OneSoFar a b → OneStepText x y → OneSoFar (with_step a x) (with_step b y)
with_alike a b o (a_step i) = record { steps = one_more OneStep a.0 b.0 _ _ o.steps i; terminator = o.terminator }
with_alike a b o (a_terminator s t i) = record { steps = o.steps; terminator = i }

agree_onto_step : (n : ℕ) {transition : Take TransitionTree} → Same transition → (a b : SoFar) → OneSoFar a b → Agree OneSoFar (onto_step n transition a) (onto_step n transition b)
unfolding onto_step
agree_onto_step n i a b o = record {
  by = λ r s c.
      let f = (agree_step n i).by r s c in
      record { is = with_alike a b o f.is; left = f.left };
}

agree_transition_by : (n : ℕ) (transition : Take TransitionTree) → Same transition → Agree OneTransition (transition_by n transition) (transition_by n transition)
unfolding transition_by
agree_transition_by n transition i = record {
  by = λ r s b.
      let f = (agree_onto {Is = OneSoFar} (onto_step n transition) (onto_step n transition) (agree_onto_step n i) ([], None) ([], None) (record { steps = tt; terminator = tt })).by (after r) (after s) (on b) in
      record { is = one_transition _ _ (steps_of _ _ f.is.steps) f.is.terminator; left = f.left };
}

pub agree_transition : (n : ℕ) → Agree OneTransition (transition_at n) (transition_at n)
unfolding transition_at
agree_transition zero = record { by = λ r s b. record { is = one_transition None None no_step tt; left = b } }
agree_transition (suc n) = record { by = λ r s b. (agree_transition_by n (transition_at n) (agree_transition n)).by r s b }

-- ---- connections and procedures

pub agree_connection : (n : ℕ) → Agree OneConnection (connection_at n) (connection_at n)
unfolding connection_at
agree_connection n = record {
  by = λ r s b.
      let t = (agree_transition n).by (behind (behind (behind (after r)))) (behind (behind (behind (after s)))) (past (past (past (on b)))) in
      let e = agree_end.by _ _ (past t.left) in
      record { is = (one_name (past (on b)), t.is, e.is); left = e.left };
}

agree_own_body : (n : ℕ) → Agree OneBody (own_body_at n) (own_body_at n)
unfolding own_body_at
agree_own_body n = record {
  by = λ r s b.
      let dcls = (agree_more (agree_dcl n) [] [] tt).by r s b in
      let e = agree_end.by _ _ (past dcls.left) in
      let t = (agree_transition n).by _ _ e.left in
      let connections = (agree_more (agree_connection n) [] [] tt).by _ _ t.left in
      let c = (agree_closing _ _).by _ _ (past connections.left) in
      record { is = body_own _ _ _ _ _ _ _ _ _ _ dcls.is e.is t.is connections.is c.is; left = c.left };
}

agree_body : (n : ℕ) → Agree OneBody (body_at n) (body_at n)
unfolding body_at
agree_body n = record {
  by = λ r s b.
      let e = agree_end.by (behind (after r)) (behind (after s)) (past (on b)) in
      either 0 b (record { is = body_external _ _ _ _ e.is; left = e.left }) ((agree_own_body n).by (after r) (after s) (on b));
}

pub agree_procedure : (n : ℕ) → Agree OneProcedure (procedure_at n) (procedure_at n)
unfolding procedure_at
agree_procedure n = record {
  by = λ r s b.
      let e = agree_end.by (behind (behind (after r))) (behind (behind (after s))) (past (past (on b))) in
      let fpar = (agree_maybe agree_fpar).by _ _ e.left in
      let returns = (agree_maybe agree_returns).by _ _ fpar.left in
      let own = (agree_body n).by _ _ returns.left in
      record { is = (one_name (past (on b)), e.is, fpar.is, returns.is, own.is); left = own.left };
}
