-- Where each form is built and each transition closes, an outline leaves nothing of its process out.
use Rattle.std.proofs.Common.{◌≡◌, ℕ, ◌≤◌, Bool, true, false, not, ◌&&◌, ◌||◌, nat_lt, if◌then◌else◌, List, [], ◌∷◌, ◌++◌, length, map, Option, Some, None, is_some, refl, sym, ap, subst, ◌∙◌, ◌⊎◌, inl, inr, arith}
use Rattle.std.specs.Prelude.{IsTrue}
use Rattle.std.specs.List.{flat_map, list_all, list_any, AllByRecursion}
use Rattle.std.proofs.lemmas.Bool.{false≢true}
use Rattle.std.proofs.lemmas.Bool.Decides.{nat_tests}
use Rattle.og_base.specs.declared.Place.{Place}
use Rattle.og_base.specs.declared.Violation.{Violation}
use Rattle.og_base.specs.Order.{comes_before, first_from, first_of}
use Rattle.og_names.proofs.Truths.{both_true, both_first, both_second, neither_first, same_value}
use Rattle.og_ast.specs.declared.expression.VarTree.{out-VarTree}
use Rattle.og_ast.specs.declared.ground.HyphenedName.{HyphenedName}
use Rattle.og_ast.specs.declared.ground.Name.{Name}
use Rattle.og_ast.specs.declared.state.AggregationPart.{AggregationPart}
use Rattle.og_ast.specs.declared.state.AggregationPart.TheOpen as open'
use Rattle.og_ast.specs.declared.state.AggregationTree.{AggregationTree}
use Rattle.og_ast.specs.declared.state.CompositeTree.{CompositeTree}
use Rattle.og_ast.specs.declared.state.EnablingTree.{EnablingTree}
use Rattle.og_ast.specs.declared.state.InnerTree.{InnerTree, InnerTree-F, Dcl, Timer, Procedure, Start, State, Composite, Aggregation, Connection, out-InnerTree, roll-InnerTree, roll-out-InnerTree}
use Rattle.og_ast.specs.declared.state.InnerTree.TheVariants as inner
use Rattle.og_ast.specs.declared.state.InputTree.{InputTree}
use Rattle.og_ast.specs.declared.state.InTree.{InTree}
use Rattle.og_ast.specs.declared.state.ListTree.{ListTree}
use Rattle.og_ast.specs.declared.state.ListTree.TheVariants as list
use Rattle.og_ast.specs.declared.state.PartTree.{PartTree}
use Rattle.og_ast.specs.declared.state.PartTree.TheVariants as part
use Rattle.og_ast.specs.declared.state.StartTree.{StartTree}
use Rattle.og_ast.specs.declared.state.StateTree.{StateTree}
use Rattle.og_ast.specs.declared.system.BlockPart.{BlockPart}
use Rattle.og_ast.specs.declared.system.BlockPart.TheVariants as member
use Rattle.og_ast.specs.declared.system.ProcessTree.{ProcessTree}
use Rattle.og_ast.specs.declared.system.SystemPart.{SystemPart}
use Rattle.og_ast.specs.declared.system.SystemPart.TheVariants as piece
use Rattle.og_ast.specs.declared.system.SystemTree.{SystemTree}
use Rattle.og_ast.specs.declared.system.Unit.{Unit as UnitTree}
use Rattle.og_ast.specs.declared.system.Unit.TheVariants as unit
use Rattle.og_ast.specs.declared.transition.ActionTree.{ActionTree, ActionTree-F, Output, out-ActionTree, roll-ActionTree, roll-out-ActionTree}
use Rattle.og_ast.specs.declared.transition.ActionTree.TheOpen as action
use Rattle.og_ast.specs.declared.transition.ActionTree.TheVariants.{rolls-Informal, rolls-Task, rolls-Output, rolls-Call, rolls-Decision}
use Rattle.og_ast.specs.declared.transition.AssignTree.{AssignTree}
use Rattle.og_ast.specs.declared.transition.BranchTree.{BranchTree}
use Rattle.og_ast.specs.declared.transition.DecisionTree.{DecisionTree}
use Rattle.og_ast.specs.declared.transition.ElseTree.{ElseTree}
use Rattle.og_ast.specs.declared.transition.OutTree.{OutTree}
use Rattle.og_ast.specs.declared.transition.StepTree.{StepTree}
use Rattle.og_ast.specs.declared.transition.TerminatorKind.{TerminatorKind}
use Rattle.og_ast.specs.declared.transition.TerminatorKind.TheVariants as kind
use Rattle.og_ast.specs.declared.transition.TerminatorTree.{TerminatorTree}
use Rattle.og_ast.specs.declared.transition.TransitionTree.{TransitionTree, out-TransitionTree}
use Rattle.og_forms.specs.declared.form.Form.TheVariants as form
use Rattle.og_forms.specs.Forms.{FormAt, Forms, is_built, at, when, maybe, is_any, are_several, in_label, call_form, is_value, in_assign, in_task, has_values, in_output, in_end, in_terminator, in_action, in_decision, in_step, in_transition, in_start, in_list, has_variables, in_enabling, in_part, in_state, in_dcl, in_connection, in_procedure, in_inner, in_block_part, in_system_part, in_unit, forms_in, unbuilt_in}
use Rattle.og_forms.proofs.Built.{none_unbuilt}
use Rattle.og_forms.proofs.Opens as forms
use Rattle.og_system.specs.Bodies.{Home, Body, home_at, bodies_of_block_part, bodies_of_system_part, bodies_of_unit, bodies, foremost, process_of}
use Rattle.og_system.specs.Closing.{does_last, closes, step_closes, action_closes, unclosed, without_start, within, is_plain_start, in_process, unclosed_in, first_unclosed}
use Rattle.og_system.specs.Closing as closing
use Rattle.og_system.specs.Ways.{has_any, same_place, Declaration, declaration, declared_in_block_part, declared_in_system_part, declared_in_unit, all_signals, Ways, ways, directed}
use Rattle.og_system.proofs.Opens as closings
use Rattle.og_outline.specs.declared.NextOutline.{NextOutline}
use Rattle.og_outline.specs.declared.StartOutline.{StartOutline}
use Rattle.og_outline.specs.declared.StateOutline.{StateOutline}
use Rattle.og_outline.specs.declared.StepOutline.{StepOutline}
use Rattle.og_outline.specs.declared.StepOutline.TheVariants as step
use Rattle.og_outline.specs.Outlines.{hyphened, sort_at, sort_of, signal_of, sent, steps_in_action, steps_in_step, steps_of, next_by, next_at, next_of, start_at, start_of, starts_in, starts_in_inner, received, input_at, inputs_in_part, state_by, state_of, states_in, states_in_inner, outline_of}
use Rattle.og_outline.specs.Whole.{Paired, IsStep, IsNext, IsTransition, IsStart, IsInput, IsState, ArePartsOf, no_part, then_start, then_state, IsSort, IsSignal, IsWhole, is_filled_action, is_filled_step, is_filled_transition, is_filled_part, is_filled_list, is_filled_inner_by, is_filled_inner, is_filled_process, is_filled_sort, is_filled_signal, is_filled_block_part, is_filled_system_part, is_filled_unit, are_filled}
use Rattle.og_outline.proofs.BuiltForms.{Built, front_built, back_built, never, stands_not, call_not_kept}

-- ---- lists

most_from : (m n : ℕ) → nat_lt m n ≡ false → n ≤ m
most_from m n h = grind (arith, nat_tests)

none_any : {X : Type 0} (xs : List X) → is_any xs ≡ false → xs ≡ []
none_any [] h = refl
none_any (x ∷ xs) h = absurd (omega (arith, most_from 0 (length (x ∷ xs)) h))

not_several : {X : Type 0} (x y : X) (xs : List X) → are_several (x ∷ y ∷ xs) ≡ false → ⊥
not_several x y xs h = omega (arith, most_from 1 (length (x ∷ y ∷ xs)) h)

none_front : {X : Type 0} (xs ys : List X) → xs ++ ys ≡ [] → xs ≡ []
none_front [] ys h = refl
none_front (x ∷ xs) ys h = cc

none_back : {X : Type 0} (xs ys : List X) → xs ++ ys ≡ [] → ys ≡ []
none_back [] ys h = h
none_back (x ∷ xs) ys h = cc

none_some : (o : Option Name) → is_some o ≡ false → o ≡ None
none_some None h = refl
none_some (Some name) h = absurd (false≢true (sym h))

-- what is violated unless the test holds
unless : (b : Bool) (v : Violation) → (if b then [] else v ∷ []) ≡ [] → b ≡ true
unless true v h = refl
unless false v h = cc

-- an item gives one other
record One {X Y : Type 0} (Is : X → Y → Type 0) (x : X) (ys : List Y) : Type 0 where
  y : Y
  are : ys ≡ y ∷ []
  is : Is x y

one_more : {X Y : Type 0} (Is : X → Y → Type 0) (f : X → List Y) (x : X) (xs : List X) → One Is x (f x) → Paired Is xs (flat_map f xs) → Paired Is (x ∷ xs) (f x ++ flat_map f xs)
one_more Is f x xs one more = subst (λ ys. Paired Is (x ∷ xs) (ys ++ flat_map f xs)) (sym one.are) (one.is, more)

-- ---- steps

unlabelled : (label : Option Name) → Built (in_label label) → label ≡ None
unlabelled None h = refl
unlabelled (Some name) h = absurd (never form.Label name.place [] refl h)

abbrev Acting : Type 0
Acting = ActionTree-F ActionTree BranchTree DecisionTree ElseTree StepTree TransitionTree

action_is : (a : ActionTree) (o : Acting) → out-ActionTree a ≡ o → a ≡ roll-ActionTree o
action_is a o e = sym (roll-out-ActionTree a) ∙ ap roll-ActionTree e

-- OUTPUT of these signals
one_sent : (s : StepTree) (outs : List OutTree) → s.label ≡ None → s.action ≡ Output outs → has_any outs ≡ true → Built (in_output outs s.place) → One IsStep s (map sent outs)
one_sent s [] plain does filled built = absurd (false≢true filled)
one_sent s (out ∷ []) plain does filled built =
    let values : out.values ≡ [] =
    none_any out.values (neither_first (has_values out) false (stands_not (list_any has_values (out ∷ [])) form.OutputValues s.place refl
    (back_built (when (are_several (out ∷ [])) form.SeveralOutputs s.place) (when (list_any has_values (out ∷ [])) form.OutputValues s.place) built))) in
    record {
      y = step.Output out.signal;
      are = refl;
      is = record { does = does ∙ ap (λ vs. Output (record { signal = out.signal; values = vs } ∷ [])) values; plain = plain };
    }
one_sent s (out ∷ other ∷ more) plain does filled built =
    absurd (not_several out other more (stands_not (are_several (out ∷ other ∷ more)) form.SeveralOutputs s.place refl
    (front_built (when (are_several (out ∷ other ∷ more)) form.SeveralOutputs s.place) (when (list_any has_values (out ∷ other ∷ more)) form.OutputValues s.place) built)))

-- TASK with assignments
no_assign : (x : AssignTree) (b : Bool) → is_value x ≡ b → (xs : List AssignTree) (place : Place) → Built (in_task (x ∷ xs) place) → ⊥
no_assign x true e xs place h =
    false≢true (sym (stands_not (list_any is_value (x ∷ xs)) form.Assignment place refl (front_built (when (list_any is_value (x ∷ xs)) form.Assignment place) (flat_map in_assign (x ∷ xs)) h)) ∙ ap (λ b. b || list_any is_value xs) e)
no_assign x false e xs place h =
    let assigned : Built (in_assign x) = front_built (in_assign x) (flat_map in_assign xs) (back_built (when (list_any is_value (x ∷ xs)) form.Assignment place) (flat_map in_assign (x ∷ xs)) h) in
    false≢true (sym (stands_not (not (is_value x)) form.AssignedCall (out-VarTree x.target).name.place refl assigned) ∙ ap not e)

no_task : (assigns : List AssignTree) (place : Place) → has_any assigns ≡ true → Built (in_task assigns place) → ⊥
no_task [] place filled h = false≢true filled
no_task (x ∷ xs) place filled h = no_assign x (is_value x) refl xs place h

-- the forms of the action of a step
acts : (s : StepTree) (o : Acting) (fs : Forms) → out-ActionTree s.action ≡ o → in_action (roll-ActionTree o) s.place ≡ fs → Built (in_label s.label ++ in_action s.action s.place) → Built fs
acts s o fs e are built =
    subst Built (ap (λ a. in_action a s.place) (action_is s.action o e) ∙ are) (back_built (in_label s.label) (in_action s.action s.place) built)

one_step : (s : StepTree) (o : Acting) → out-ActionTree s.action ≡ o → Built (in_label s.label ++ in_action s.action s.place) → is_filled_action o ≡ true → One IsStep s (steps_in_action s.place o)
one_step s (action.Informal text) e built filled = record {
  y = step.Nothing s.place;
  are = refl;
  is = record {
    text = text;
    does = action_is s.action (action.Informal text) e ∙ rolls-Informal text;
    at = refl;
    plain = unlabelled s.label (front_built (in_label s.label) (in_action s.action s.place) built);
  };
}
one_step s (action.Task assigns) e built filled =
    absurd (no_task assigns s.place filled (acts s (action.Task assigns) (in_task assigns s.place) e (ap (λ a. in_action a s.place) (rolls-Task assigns) ∙ forms.of-Task assigns s.place) built))
one_step s (action.Output outs) e built filled =
    one_sent s outs (unlabelled s.label (front_built (in_label s.label) (in_action s.action s.place) built)) (action_is s.action (action.Output outs) e ∙ rolls-Output outs) filled
    (acts s (action.Output outs) (in_output outs s.place) e (ap (λ a. in_action a s.place) (rolls-Output outs) ∙ forms.of-Output outs s.place) built)
one_step s (action.Call call) e built filled =
    absurd (never (call_form call) s.place [] (call_not_kept call)
    (acts s (action.Call call) (at (call_form call) s.place ∷ []) e (ap (λ a. in_action a s.place) (rolls-Call call) ∙ forms.of-Call call s.place) built))
one_step s (action.Decision d) e built filled =
    absurd (never form.Decision s.place (in_decision d) refl
    (acts s (action.Decision d) (at form.Decision s.place ∷ in_decision d) e (ap (λ a. in_action a s.place) (rolls-Decision d) ∙ forms.of-Decision d s.place) built))

whole_steps : (ss : List StepTree) → Built (flat_map in_step ss) → list_all is_filled_step ss ≡ true → Paired IsStep ss (flat_map steps_in_step ss)
whole_steps [] built filled = tt
whole_steps (s ∷ ss) built filled =
    one_more IsStep steps_in_step s ss
    (one_step s (out-ActionTree s.action) refl (subst Built (forms.of-step s) (front_built (in_step s) (flat_map in_step ss) built)) (both_first (is_filled_step s) (list_all is_filled_step ss) filled))
    (whole_steps ss (back_built (in_step s) (flat_map in_step ss) built) (both_second (is_filled_step s) (list_all is_filled_step ss) filled))

-- ---- transitions

-- no step of an outline closes its transition
step_open : (s : StepTree) (x : StepOutline) → IsStep s x → step_closes s ≡ false
step_open s (step.Nothing place) is = closings.of-step s ∙ ap action_closes is.does ∙ closings.of-Informal is.text
step_open s (step.Output signal) is = closings.of-step s ∙ ap action_closes is.does ∙ closings.of-Output (record { signal = signal; values = [] } ∷ [])

last_open : (ss : List StepTree) (xs : List StepOutline) → Paired IsStep ss xs → does_last (map step_closes ss) ≡ false
last_open [] xs are = refl
last_open (s ∷ []) [] are = absurd are
last_open (s ∷ []) (x ∷ xs) are = step_open s x are.0
last_open (s ∷ t ∷ ss) [] are = absurd are
last_open (s ∷ t ∷ ss) (x ∷ xs) are = last_open (t ∷ ss) xs are.1

record OneNext (terminator : Option TerminatorTree) : Type 0 where
  next : NextOutline
  leads : next_at terminator ≡ Some next
  is : IsNext terminator next

-- the forms of a terminator of this kind
ends : (end : TerminatorTree) (k : TerminatorKind) → end.kind ≡ k → Built (in_terminator end) → Built (in_end k end.place)
ends end k e built = subst (λ l. Built (in_end l end.place)) e (back_built (in_label end.label) (in_end end.kind end.place) built)

one_next : (end : TerminatorTree) (k : TerminatorKind) → end.kind ≡ k → Built (in_terminator end) → OneNext (Some end)
one_next end (kind.Dash dash) e built = absurd (never form.Dash end.place [] refl (ends end (kind.Dash dash) e built))
one_next end (kind.History dash) e built = absurd (never form.History end.place [] refl (ends end (kind.History dash) e built))
one_next end (kind.Next state None) e built = record {
  next = record { place = end.place; state = state };
  leads = ap (next_by end.place) e;
  is = record { tree = end; is = refl; at = refl; leads = e; plain = unlabelled end.label (front_built (in_label end.label) (in_end end.kind end.place) built) };
}
one_next end (kind.Next state (Some via)) e built = absurd (never form.Via end.place [] refl (ends end (kind.Next state (Some via)) e built))
one_next end (kind.Join label) e built = absurd (never form.Join end.place [] refl (ends end (kind.Join label) e built))
one_next end (kind.Return result) e built = absurd (never form.Return end.place [] refl (ends end (kind.Return result) e built))
one_next end kind.Stop e built = absurd (never form.Stop end.place [] refl (ends end kind.Stop e built))

some_next : (terminator : Option TerminatorTree) → is_some terminator ≡ true → Built (maybe in_terminator terminator) → OneNext terminator
some_next None there built = absurd (false≢true there)
some_next (Some end) there built = one_next end end.kind refl built

record Goes (t : TransitionTree) : Type 0 where
  next : NextOutline
  leads : next_of t ≡ Some next
  is : IsTransition t (steps_of t) next

open_then : (a b : Bool) → a || b ≡ true → b ≡ false → a ≡ true
open_then true b h e = refl
open_then false b h e = absurd (false≢true (sym e ∙ h))

goes : (t : TransitionTree) → Built (in_transition t) → closes t ≡ true → is_filled_transition t ≡ true → Goes t
goes t built closed filled =
    let ss : List StepTree = (out-TransitionTree t).steps in
    let end : Option TerminatorTree = (out-TransitionTree t).terminator in
    let both : Built (flat_map in_step ss ++ maybe in_terminator end) = subst Built (forms.of-transition t) built in
    let steps : Paired IsStep ss (flat_map steps_in_step ss) = whole_steps ss (front_built (flat_map in_step ss) (maybe in_terminator end) both) filled in
    let there : is_some end ≡ true = open_then (is_some end) (does_last (map step_closes ss)) (sym (closings.of-transition t) ∙ closed) (last_open ss (flat_map steps_in_step ss) steps) in
    let one : OneNext end = some_next end there (back_built (flat_map in_step ss) (maybe in_terminator end) both) in
    record { next = one.next; leads = one.leads; is = record { steps_are = steps; next_is = one.is } }

-- ---- starts and inputs

one_start : (s : StartTree) → Built (in_start s) → unclosed s.place s.transition ≡ [] → is_filled_transition s.transition ≡ true → One IsStart s (start_of s)
one_start s built closed filled =
    let plain : s.name ≡ None = none_some s.name (stands_not (is_some s.name) form.NamedStart s.place refl (front_built (when (is_some s.name) form.NamedStart s.place) (in_transition s.transition) built)) in
    let w : Goes s.transition = goes s.transition (back_built (when (is_some s.name) form.NamedStart s.place) (in_transition s.transition) built) (unless (closes s.transition) _ closed) filled in
    record {
      y = record { place = s.place; steps = steps_of s.transition; next = w.next };
      are = λ i. start_at s (plain i) (w.leads i);
      is = record { plain = plain; at = refl; goes = w.is };
    }

no_enabling : (enabling : Option EnablingTree) → Built (in_enabling enabling) → enabling ≡ None
no_enabling None h = refl
no_enabling (Some e) h = absurd (never form.EnablingCondition e.place [] refl h)

-- INPUT of these signals
one_input : (i : InputTree) (ins : List InTree) → i.inputs ≡ ins → has_any ins ≡ true → i.enabling ≡ None → Goes i.transition
    → Built (when (are_several ins) form.SeveralInputs i.place) → Built (when (list_any has_variables ins) form.InputVariables i.place) → One IsInput (part.Input i) (inputs_in_part (part.Input i))
one_input i [] e filled plain w alone bare = absurd (false≢true filled)
one_input i (x ∷ []) e filled plain w alone bare =
    let variables : x.variables ≡ [] = none_any x.variables (neither_first (has_variables x) false (stands_not (list_any has_variables (x ∷ [])) form.InputVariables i.place refl bare)) in
    let ins : List Name → List InTree = λ vs. record { signal = x.signal; variables = vs } ∷ [] in
    record {
      y = record { place = i.place; signal = x.signal; steps = steps_of i.transition; next = w.next };
      are = ap (input_at i) w.leads ∙ ap (λ xs. received i.place xs (steps_of i.transition) w.next) e;
      is = record { tree = i; is = refl; at = refl; receives = e ∙ ap ins variables; plain = plain; goes = w.is };
    }
one_input i (x ∷ y ∷ more) e filled plain w alone bare = absurd (not_several x y more (stands_not (are_several (x ∷ y ∷ more)) form.SeveralInputs i.place refl alone))

one_part : (p : PartTree) → Built (in_part p) → closing.in_part p ≡ [] → is_filled_part p ≡ true → One IsInput p (inputs_in_part p)
one_part (part.Input i) built closed filled =
    let several : Forms = when (are_several i.inputs) form.SeveralInputs i.place in
    let variables : Forms = when (list_any has_variables i.inputs) form.InputVariables i.place in
    let inside : Forms = in_enabling i.enabling ++ in_transition i.transition in
    let behind : Built (variables ++ inside) = back_built several (variables ++ inside) built in
    let rest : Built inside = back_built variables inside behind in
    one_input i i.inputs refl (both_first (has_any i.inputs) (is_filled_transition i.transition) filled)
    (no_enabling i.enabling (front_built (in_enabling i.enabling) (in_transition i.transition) rest))
    (goes i.transition (back_built (in_enabling i.enabling) (in_transition i.transition) rest) (unless (closes i.transition) _ closed) (both_second (has_any i.inputs) (is_filled_transition i.transition) filled))
    (front_built several (variables ++ inside) built) (front_built variables inside behind)
one_part (part.Provided p) built closed filled = absurd (never form.ContinuousSignal p.place (in_transition p.transition) refl built)
one_part (part.Connect c) built closed filled = absurd (never form.Connect c.place (in_transition c.transition) refl built)
one_part (part.Save s) built closed filled = absurd (never form.Save s.place [] refl built)

whole_inputs : (ps : List PartTree) → Built (flat_map in_part ps) → flat_map closing.in_part ps ≡ [] → list_all is_filled_part ps ≡ true → Paired IsInput ps (flat_map inputs_in_part ps)
whole_inputs [] built closed filled = tt
whole_inputs (p ∷ ps) built closed filled =
    one_more IsInput inputs_in_part p ps
    (one_part p (front_built (in_part p) (flat_map in_part ps) built) (none_front (closing.in_part p) (flat_map closing.in_part ps) closed) (both_first (is_filled_part p) (list_all is_filled_part ps) filled))
    (whole_inputs ps (back_built (in_part p) (flat_map in_part ps) built) (none_back (closing.in_part p) (flat_map closing.in_part ps) closed) (both_second (is_filled_part p) (list_all is_filled_part ps) filled))

-- ---- states

one_state : (s : StateTree) (l : ListTree) → s.list ≡ l → is_filled_list l ≡ true → Built (in_list l s.place) → Paired IsInput s.parts (flat_map inputs_in_part s.parts) → One IsState s (state_of s)
one_state s (list.Names []) e filled built inputs = absurd (false≢true filled)
one_state s (list.Names (name ∷ [])) e filled built inputs = record {
  y = record { name = name; inputs = flat_map inputs_in_part s.parts };
  are = ap (λ l. state_by l s.parts) e;
  is = record { named = e; inputs_are = inputs };
}
one_state s (list.Names (name ∷ other ∷ more)) e filled built inputs = absurd (not_several name other more (stands_not (are_several (name ∷ other ∷ more)) form.SeveralStates s.place refl built))
one_state s (list.All star names) e filled built inputs = absurd (never form.EveryState s.place [] refl built)

whole_state : (s : StateTree) → Built (in_state s) → closing.in_state s ≡ [] → is_filled_list s.list && list_all is_filled_part s.parts ≡ true → One IsState s (state_of s)
whole_state s built closed filled =
    one_state s s.list refl (both_first (is_filled_list s.list) (list_all is_filled_part s.parts) filled) (front_built (in_list s.list s.place) (flat_map in_part s.parts) built)
    (whole_inputs s.parts (back_built (in_list s.list s.place) (flat_map in_part s.parts) built) closed (both_second (is_filled_list s.list) (list_all is_filled_part s.parts) filled))

-- ---- the parts of a process

abbrev Standing : Type 0
Standing = InnerTree-F AggregationPart InnerTree AggregationTree CompositeTree

inner_is : (p : InnerTree) (o : Standing) → out-InnerTree p ≡ o → p ≡ roll-InnerTree o
inner_is p o e = sym (roll-out-InnerTree p) ∙ ap roll-InnerTree e

-- the forms of a part
stands : (p q : InnerTree) (fs : Forms) → p ≡ q → in_inner q ≡ fs → Built (in_inner p) → Built fs
stands p q fs is are built = subst Built (ap in_inner is ∙ are) built

fits : (p q : InnerTree) (xs xs' : List StartOutline) (ys ys' : List StateOutline) (ps : List InnerTree) (starts : List StartOutline) (states : List StateOutline)
    → p ≡ q → xs ≡ xs' → ys ≡ ys' → ArePartsOf (q ∷ ps) (xs' ++ starts) (ys' ++ states) → ArePartsOf (p ∷ ps) (xs ++ starts) (ys ++ states)
fits p q xs xs' ys ys' ps starts states is are all whole =
    subst (λ r. ArePartsOf (r ∷ ps) (xs ++ starts) (ys ++ states)) (sym is)
    (subst (λ zs. ArePartsOf (q ∷ ps) (zs ++ starts) (ys ++ states)) (sym are)
    (subst (λ zs. ArePartsOf (q ∷ ps) (xs' ++ starts) (zs ++ states)) (sym all) whole))

whole_part : (p : InnerTree) (o : Standing) (ps : List InnerTree) (starts : List StartOutline) (states : List StateOutline) → out-InnerTree p ≡ o → Built (in_inner p) → closing.in_inner p ≡ []
    → is_filled_inner_by o ≡ true → ArePartsOf ps starts states → ArePartsOf (p ∷ ps) (starts_in_inner p ++ starts) (states_in_inner p ++ states)
whole_part p (open'.InnerTree::Dcl dcl) ps starts states e built closed filled more =
    absurd (never form.Dcl dcl.place [] refl (stands p (Dcl dcl) (in_dcl dcl) (inner_is p _ e ∙ inner.rolls-Dcl dcl) (forms.of-Dcl-inner dcl) built))
whole_part p (open'.InnerTree::Timer timer) ps starts states e built closed filled more =
    absurd (never form.Timer timer.place [] refl (stands p (Timer timer) (at form.Timer timer.place ∷ []) (inner_is p _ e ∙ inner.rolls-Timer timer) (forms.of-Timer-inner timer) built))
whole_part p (open'.InnerTree::Procedure procedure) ps starts states e built closed filled more =
    absurd (never form.Procedure procedure.place _ refl (stands p (Procedure procedure) (in_procedure procedure) (inner_is p _ e ∙ inner.rolls-Procedure procedure) (forms.of-Procedure-inner procedure) built))
whole_part p (open'.Start start) ps starts states e built closed filled more =
    let is : p ≡ Start start = inner_is p (open'.Start start) e ∙ inner.rolls-Start start in
    let one : One IsStart start (start_of start) =
    one_start start (stands p (Start start) (in_start start) is (forms.of-Start-inner start) built) (sym (ap (λ q. (within q).1) is ∙ closings.in-Start start) ∙ closed) filled in
    fits p (Start start) (starts_in_inner p) (one.y ∷ []) (states_in_inner p) [] ps starts states is (ap starts_in e ∙ one.are) (ap states_in e) (then_start start one.y one.is more)
whole_part p (open'.State state) ps starts states e built closed filled more =
    let is : p ≡ State state = inner_is p (open'.State state) e ∙ inner.rolls-State state in
    let one : One IsState state (state_of state) =
    whole_state state (stands p (State state) (in_state state) is (forms.of-State-inner state) built) (sym (ap (λ q. (within q).1) is ∙ closings.in-State state) ∙ closed) filled in
    fits p (State state) (starts_in_inner p) [] (states_in_inner p) (one.y ∷ []) ps starts states is (ap starts_in e) (ap states_in e ∙ one.are) (then_state state one.y one.is more)
whole_part p (open'.InnerTree::Composite c) ps starts states e built closed filled more =
    absurd (never form.CompositeState c.place _ refl (stands p (Composite c) (at form.CompositeState c.place ∷ flat_map in_inner c.parts) (inner_is p _ e ∙ inner.rolls-Composite c) (forms.of-Composite-inner c ∙ forms.of-composite c) built))
whole_part p (open'.Aggregation a) ps starts states e built closed filled more =
    absurd (never form.Aggregation a.place _ refl (stands p (Aggregation a) _ (inner_is p _ e ∙ inner.rolls-Aggregation a) (forms.of-Aggregation-inner a ∙ forms.of-aggregation a) built))
whole_part p (open'.Connection c) ps starts states e built closed filled more =
    absurd (never form.Connection c.place _ refl (stands p (Connection c) (in_connection c) (inner_is p _ e ∙ inner.rolls-Connection c) (forms.of-Connection-inner c) built))

whole_parts : (ps : List InnerTree) → Built (flat_map in_inner ps) → flat_map closing.in_inner ps ≡ [] → list_all is_filled_inner ps ≡ true
    → ArePartsOf ps (flat_map starts_in_inner ps) (flat_map states_in_inner ps)
whole_parts [] built closed filled = no_part
whole_parts (p ∷ ps) built closed filled =
    whole_part p (out-InnerTree p) ps (flat_map starts_in_inner ps) (flat_map states_in_inner ps) refl (front_built (in_inner p) (flat_map in_inner ps) built)
    (none_front (closing.in_inner p) (flat_map closing.in_inner ps) closed) (both_first (is_filled_inner p) _ filled)
    (whole_parts ps (back_built (in_inner p) (flat_map in_inner ps) built) (none_back (closing.in_inner p) (flat_map closing.in_inner ps) closed) (both_second (is_filled_inner p) _ filled))

-- where a part is a START without a name, there is a start
some_start : {ps : List InnerTree} {starts : List StartOutline} {states : List StateOutline} → ArePartsOf ps starts states → list_any is_plain_start ps ≡ true → has_any starts ≡ true
some_start no_part h = absurd (false≢true h)
some_start (then_start tree start is more) h = refl
some_start (then_state tree state {parts} is more) h = some_start more (sym (ap (λ b. b || list_any is_plain_start parts) (closings.starts-State tree)) ∙ h)

-- ---- what holds in each unit

each_joined : {Y : Type 0} (P : Y → Type 0) (xs ys : List Y) → AllByRecursion P xs → AllByRecursion P ys → AllByRecursion P (xs ++ ys)
each_joined P [] ys p q = q
each_joined P (x ∷ xs) ys p q = (p.0, each_joined P xs ys p.1 q)

each_flat : {X Y : Type 0} (P : Y → Type 0) (test : X → Bool) (f : X → List Y) → ((x : X) → test x ≡ true → AllByRecursion P (f x)) → (xs : List X) → list_all test xs ≡ true → AllByRecursion P (flat_map f xs)
each_flat P test f each [] h = tt
each_flat P test f each (x ∷ xs) h = each_joined P (f x) (flat_map f xs) (each x (both_first (test x) (list_all test xs) h)) (each_flat P test f each xs (both_second (test x) (list_all test xs) h))

each_mapped : {X Y : Type 0} (P : Y → Type 0) (test : X → Bool) (f : X → Y) → ((x : X) → test x ≡ true → P (f x)) → (xs : List X) → list_all test xs ≡ true → AllByRecursion P (map f xs)
each_mapped P test f each [] h = tt
each_mapped P test f each (x ∷ xs) h = (each x (both_first (test x) (list_all test xs) h), each_mapped P test f each xs (both_second (test x) (list_all test xs) h))

of_first : (P : Body → Type 0) (bs : List Body) (body : Body) → AllByRecursion P bs → foremost bs ≡ Some body → P body
of_first P [] body all h = cc
of_first P (b ∷ bs) body all h = subst P (same_value b body h) all.0

-- ---- the forms of a body

-- of each of a list
built_each : {X : Type 0} (forms : X → Forms) (xs : List X) → Built (flat_map forms xs) → list_all (λ x. list_all (λ (f : FormAt). is_built f.form) (forms x)) xs ≡ true
built_each forms [] built = refl
built_each forms (x ∷ xs) built = both_true _ _ (front_built (forms x) (flat_map forms xs) built) (built_each forms xs (back_built (forms x) (flat_map forms xs) built))

abbrev IsBuilt : Body → Type 0
IsBuilt body = Built (flat_map in_inner body.process.parts)

built_pieces : {X : Type 0} (forms : X → Forms) (f : X → List Body) → ((x : X) → Built (forms x) → AllByRecursion IsBuilt (f x)) → (xs : List X) → Built (flat_map forms xs) → AllByRecursion IsBuilt (flat_map f xs)
built_pieces forms f each xs built = each_flat IsBuilt (λ x. list_all (λ (g : FormAt). is_built g.form) (forms x)) f each xs (built_each forms xs built)

built_member : (home : Home) (p : BlockPart) → Built (in_block_part p) → AllByRecursion IsBuilt (bodies_of_block_part home p)
built_member home (member.Signal signal) built = tt
built_member home (member.Route route) built = tt
built_member home (member.Link link) built = tt
built_member home (member.Process process) built = (built, tt)
built_member home (member.Reference reference) built = tt

built_piece : (system : SystemTree) (p : SystemPart) → Built (in_system_part p) → AllByRecursion IsBuilt (bodies_of_system_part system p)
built_piece system (piece.Use use') built = tt
built_piece system (piece.Signal signal) built = tt
built_piece system (piece.Channel channel) built = tt
built_piece system (piece.Procedure procedure) built = tt
built_piece system (piece.Block block) built = built_pieces in_block_part (bodies_of_block_part (home_at system block)) (built_member (home_at system block)) block.parts built

built_unit : (u : UnitTree) → Built (in_unit u) → AllByRecursion IsBuilt (bodies_of_unit u)
built_unit (unit.Use use') built = tt
built_unit (unit.System system) built = built_pieces in_system_part (bodies_of_system_part system) (built_piece system) system.parts built
built_unit (unit.Process process) built = (built, tt)

-- ---- a body that is filled

abbrev IsFull : Body → Type 0
IsFull body = is_filled_process body.process ≡ true

full_member : (home : Home) (p : BlockPart) → is_filled_block_part p ≡ true → AllByRecursion IsFull (bodies_of_block_part home p)
full_member home (member.Signal signal) full = tt
full_member home (member.Route route) full = tt
full_member home (member.Link link) full = tt
full_member home (member.Process process) full = (full, tt)
full_member home (member.Reference reference) full = tt

full_piece : (system : SystemTree) (p : SystemPart) → is_filled_system_part p ≡ true → AllByRecursion IsFull (bodies_of_system_part system p)
full_piece system (piece.Use use') full = tt
full_piece system (piece.Signal signal) full = tt
full_piece system (piece.Channel channel) full = tt
full_piece system (piece.Procedure procedure) full = tt
full_piece system (piece.Block block) full = each_flat IsFull is_filled_block_part (bodies_of_block_part (home_at system block)) (full_member (home_at system block)) block.parts full

full_unit : (u : UnitTree) → is_filled_unit u ≡ true → AllByRecursion IsFull (bodies_of_unit u)
full_unit (unit.Use use') full = tt
full_unit (unit.System system) full = each_flat IsFull is_filled_system_part (bodies_of_system_part system) (full_piece system) system.parts full
full_unit (unit.Process process) full = (full, tt)

-- ---- signals

abbrev HasSorts : Declaration → Type 0
HasSorts d = is_filled_signal d.signal ≡ true

sorts_member : (visible : Bool) (p : BlockPart) → is_filled_block_part p ≡ true → AllByRecursion HasSorts (declared_in_block_part visible p)
sorts_member visible (member.Signal signal) full = each_mapped HasSorts is_filled_signal (declaration visible) (λ x h. h) signal.signals full
sorts_member visible (member.Route route) full = tt
sorts_member visible (member.Link link) full = tt
sorts_member visible (member.Process process) full = tt
sorts_member visible (member.Reference reference) full = tt

sorts_piece : (visible : Bool) (block : Place) (p : SystemPart) → is_filled_system_part p ≡ true → AllByRecursion HasSorts (declared_in_system_part visible block p)
sorts_piece visible block (piece.Use use') full = tt
sorts_piece visible block (piece.Signal signal) full = each_mapped HasSorts is_filled_signal (declaration visible) (λ x h. h) signal.signals full
sorts_piece visible block (piece.Channel channel) full = tt
sorts_piece visible block (piece.Procedure procedure) full = tt
sorts_piece visible block (piece.Block other) full =
    each_flat HasSorts is_filled_block_part (declared_in_block_part (same_place other.place block)) (sorts_member (same_place other.place block)) other.parts full

sorts_unit : (system block : Place) (u : UnitTree) → is_filled_unit u ≡ true → AllByRecursion HasSorts (declared_in_unit system block u)
sorts_unit system block (unit.Use use') full = tt
sorts_unit system block (unit.System other) full =
    each_flat HasSorts is_filled_system_part (declared_in_system_part (same_place other.place system) block) (sorts_piece (same_place other.place system) block) other.parts full
sorts_unit system block (unit.Process process) full = tt

one_sort : (tree : HyphenedName) (parts : List Name) → tree.parts ≡ parts → has_any parts ≡ true → One IsSort tree (sort_of tree)
one_sort tree [] e full = absurd (false≢true full)
one_sort tree (first ∷ more) e full = record {
  y = record { place = first.place; word = record { bytes = first.word.bytes ++ hyphened more } };
  are = ap sort_at e;
  is = record { first = first; more = more; parts = e; at = refl; spelt = refl };
}

whole_sorts : (trees : List HyphenedName) → list_all is_filled_sort trees ≡ true → Paired IsSort trees (flat_map sort_of trees)
whole_sorts [] full = tt
whole_sorts (tree ∷ trees) full =
    one_more IsSort sort_of tree trees (one_sort tree tree.parts refl (both_first (is_filled_sort tree) (list_all is_filled_sort trees) full)) (whole_sorts trees (both_second (is_filled_sort tree) (list_all is_filled_sort trees) full))

whole_signals : (w : Option Ways) (ds : List Declaration) → AllByRecursion HasSorts ds → Paired IsSignal ds (map signal_of (map (directed w) ds))
whole_signals w [] all = tt
whole_signals w (d ∷ ds) all = (record { named = refl; seen = refl; sorts_are = whole_sorts d.signal.sorts all.0 }, whole_signals w ds all.1)

-- ---- violations of which none comes first

decided : (b : Bool) → (b ≡ true) ⊎ (b ≡ false)
decided true = inl refl
decided false = inr refl

some_stays : (best : Violation) (vs : List Violation) → first_from (Some best) vs ≡ None → ⊥
some_stays best [] h = cc
some_stays best (w ∷ vs) h =
    elim (decided (comes_before w best)) [
      | inl won ↦ some_stays w vs (ap (λ b. first_from (if b then Some w else Some best) vs) (sym won) ∙ h)
      | inr stayed ↦ some_stays best vs (ap (λ b. first_from (if b then Some w else Some best) vs) (sym stayed) ∙ h)
    ]

no_first : (vs : List Violation) → first_of vs ≡ None → vs ≡ []
no_first [] h = refl
no_first (v ∷ vs) h = absurd (some_stays v vs h)

-- ---- outlines

pub whole : (units : List UnitTree) (body : Body) (home : Home) → IsTrue (are_filled units) → first_of (unbuilt_in units) ≡ None → process_of units ≡ Some body → first_unclosed units body.process ≡ None
    → IsWhole units body.process home (outline_of units body.process home)
whole units body home full built is closed =
    let process : ProcessTree = body.process in
    let all : Built (forms_in units) = (none_unbuilt units).0 built in
    let here : IsBuilt body = of_first IsBuilt (bodies units) body (built_pieces in_unit bodies_of_unit built_unit units all) is in
    let filled : IsFull body = of_first IsFull (bodies units) body (each_flat IsFull is_filled_unit bodies_of_unit full_unit units full) is in
    let none : in_process process ≡ [] = none_back (flat_map closing.in_unit units) (in_process process) (no_first (unclosed_in units process) closed) in
    let parts : ArePartsOf process.parts (flat_map starts_in_inner process.parts) (flat_map states_in_inner process.parts) =
    whole_parts process.parts here (none_back (without_start (list_any is_plain_start process.parts) process.name) (flat_map closing.in_inner process.parts) none) filled in
    record {
      begins = some_start parts
          (unless (list_any is_plain_start process.parts) _ (none_front (without_start (list_any is_plain_start process.parts) process.name) (flat_map closing.in_inner process.parts) none));
      parts_are = parts;
      signals_are = whole_signals (ways process home) (all_signals units home)
          (each_flat HasSorts is_filled_unit (declared_in_unit home.system.place home.block.place) (sorts_unit home.system.place home.block.place) units full);
    }
