-- Each form stands at a place that its tree keeps: whatever holds of the places that a tree keeps holds of the places of its forms.
use Rattle.std.proofs.Common.{◌≡◌, ℕ, zero, suc, ◌+◌, ◌≤◌, max, Bool, true, false, not, if◌then◌else◌, List, [], ◌∷◌, ◌++◌, Option, Some, None, is_some, sym, subst, le_refl, arith}
use Rattle.std.specs.List.{All, AllByRecursion, Contains, flat_map, list_any}
use Rattle.std.proofs.lemmas.List.Elements.{All-contains, All-contains_itself, All-from_recursion, recursion_from_All}
use denote.Param.Weighed.{most}
use denote.Hole.Carrier
use Rattle.og_base.specs.declared.Place.{Place}
use Rattle.og_base.specs.declared.Rule.TheVariants.{F1}
use Rattle.og_base.specs.declared.Violation.{Violation}
use Rattle.og_base.specs.Order.{comes_before, sooner, first_from, first_of}
use Rattle.og_ast.specs.declared.ground.Name.{Name}
use Rattle.og_ast.specs.declared.ground.EndTree.{EndTree}
use Rattle.og_ast.specs.declared.data.DclTree.{DclTree}
use Rattle.og_ast.specs.declared.procedure.ConnectionTree.{ConnectionTree}
use Rattle.og_ast.specs.declared.procedure.ProcedureBody.{ProcedureBody}
use Rattle.og_ast.specs.declared.procedure.ProcedureBody.TheVariants as body
use Rattle.og_ast.specs.declared.procedure.ProcedureTree.{ProcedureTree}
use Rattle.og_ast.specs.declared.expression.VarTree.{out-VarTree}
use Rattle.og_ast.specs.declared.state.AggregationPart.{AggregationPart, AggregationPart-F, out-AggregationPart, roll-AggregationPart, roll-out-AggregationPart, size-AggregationPart, size_is-AggregationPart}
use Rattle.og_ast.specs.declared.state.AggregationPart.TheOpen as open'
use Rattle.og_ast.specs.declared.state.AggregationPart.TheVariants as partition
use Rattle.og_ast.specs.declared.state.AggregationPart.TheBlock as States
use Rattle.og_ast.specs.declared.state.AggregationTree.{AggregationTree, size-AggregationTree, size_is-AggregationTree}
use Rattle.og_ast.specs.declared.state.CompositeTree.{CompositeTree, size-CompositeTree, size_is-CompositeTree}
use Rattle.og_ast.specs.declared.state.EnablingTree.{EnablingTree}
use Rattle.og_ast.specs.declared.state.InnerTree.{InnerTree, InnerTree-F, out-InnerTree, roll-InnerTree, roll-out-InnerTree, size-InnerTree, size_is-InnerTree}
use Rattle.og_ast.specs.declared.state.InnerTree.TheVariants as inner
use Rattle.og_ast.specs.declared.state.InputTree.{InputTree}
use Rattle.og_ast.specs.declared.state.ListTree.{ListTree}
use Rattle.og_ast.specs.declared.state.ListTree.TheVariants as list
use Rattle.og_ast.specs.declared.state.PartTree.{PartTree}
use Rattle.og_ast.specs.declared.state.PartTree.TheVariants as part
use Rattle.og_ast.specs.declared.state.StartTree.{StartTree}
use Rattle.og_ast.specs.declared.state.StateTree.{StateTree}
use Rattle.og_ast.specs.declared.system.BlockPart.{BlockPart}
use Rattle.og_ast.specs.declared.system.BlockPart.TheVariants as member
use Rattle.og_ast.specs.declared.system.SignalTree.{SignalTree}
use Rattle.og_ast.specs.declared.system.SystemPart.{SystemPart}
use Rattle.og_ast.specs.declared.system.SystemPart.TheVariants as piece
use Rattle.og_ast.specs.declared.system.Unit.{Unit as UnitTree}
use Rattle.og_ast.specs.declared.system.Unit.TheVariants as unit
use Rattle.og_ast.specs.declared.transition.ActionTree.{ActionTree, ActionTree-F, out-ActionTree, roll-ActionTree, roll-out-ActionTree, size-ActionTree, size_is-ActionTree}
use Rattle.og_ast.specs.declared.transition.ActionTree.TheOpen as action
use Rattle.og_ast.specs.declared.transition.ActionTree.TheVariants.{rolls-Informal, rolls-Task, rolls-Output, rolls-Call, rolls-Decision}
use Rattle.og_ast.specs.declared.transition.ActionTree.TheBlock as Transitions
use Rattle.og_ast.specs.declared.transition.AssignTree.{AssignTree}
use Rattle.og_ast.specs.declared.transition.BranchTree.{BranchTree, out-BranchTree, size-BranchTree, size_is-BranchTree}
use Rattle.og_ast.specs.declared.transition.DecisionTree.{DecisionTree, DecisionTree-F, out-DecisionTree, size-DecisionTree, size_is-DecisionTree}
use Rattle.og_ast.specs.declared.transition.ElseTree.{ElseTree, out-ElseTree, size-ElseTree, size_is-ElseTree}
use Rattle.og_ast.specs.declared.transition.OutTree.{OutTree}
use Rattle.og_ast.specs.declared.transition.QuestionTree.{QuestionTree}
use Rattle.og_ast.specs.declared.transition.StepTree.{StepTree, size-StepTree, size_is-StepTree}
use Rattle.og_ast.specs.declared.transition.TerminatorKind.{TerminatorKind}
use Rattle.og_ast.specs.declared.transition.TerminatorKind.TheVariants as kind
use Rattle.og_ast.specs.declared.transition.TerminatorTree.{TerminatorTree}
use Rattle.og_ast.specs.declared.transition.TransitionTree.{TransitionTree, out-TransitionTree, size-TransitionTree, size_is-TransitionTree}
use Rattle.og_places.specs.Contents.{Places, maybe as places_if, places_in_name, places_in_names, places_in_end, places_in_closing, places_in_var, places_in_expr, places_in_dcl, places_in_fpar, places_in_returns, places_in_assigned, places_in_assign, places_in_question, places_in_answer, places_in_kind, places_in_terminator, places_in_action, places_in_branch, places_in_decision, places_in_else, places_in_step, places_in_transition, places_in_connection, places_in_body, places_in_procedure, places_in_start, places_in_list, places_in_in, places_in_enabling, places_in_input, places_in_priority, places_in_part, places_in_state, places_in_points, places_in_partition, places_in_inner, places_in_aggregation, places_in_composite, places_in_signal, places_in_count, places_in_block_part, places_in_system_part, places_in_unit, places_in_units}
use Rattle.og_places.proofs.Opens as keeping
use Rattle.og_forms.specs.declared.form.Form.{Form}
use Rattle.og_forms.specs.declared.form.Form.TheVariants as form
use Rattle.og_forms.specs.Forms.{FormAt, Forms, when, maybe, are_several, in_label, is_value, in_assign, in_task, has_values, in_output, in_end, in_terminator, in_action, in_branch, in_decision, in_else, in_step, in_transition, in_start, in_list, has_variables, in_enabling, in_input, in_part, in_state, in_dcl, in_connection, in_body, in_procedure, in_inner, in_composite, in_aggregation, in_partition, has_parameters, in_signal, in_block_part, in_system_part, in_unit, forms_in, is_built, unbuilt, unbuilt_in}
use Rattle.og_forms.proofs.Opens as standing

-- ---- sizes of parts

abbrev ActionLayer : Type 0
ActionLayer = ActionTree-F ActionTree BranchTree DecisionTree ElseTree StepTree TransitionTree

abbrev DecisionLayer : Type 0
DecisionLayer = DecisionTree-F ActionTree BranchTree DecisionTree ElseTree StepTree TransitionTree

abbrev InnerLayer : Type 0
InnerLayer = InnerTree-F AggregationPart InnerTree AggregationTree CompositeTree

abbrev PartitionLayer : Type 0
PartitionLayer = AggregationPart-F AggregationPart InnerTree AggregationTree CompositeTree

abbrev inside_action : ActionLayer → ℕ
inside_action (action.Decision d) = size-DecisionTree d
inside_action _ = 0

weight_action : (x : ActionLayer) → inside_action x ≤ (Transitions.weighs-ActionTree).weight (Carrier.Values Transitions.the_members Transitions.the_sigs Transitions.the_carrier) Transitions.the_depth x
weight_action (action.Informal text) = omega arith
weight_action (action.Task assigns) = omega arith
weight_action (action.Output outs) = omega arith
weight_action (action.Call call) = omega arith
weight_action (action.Decision d) = omega arith

below_action : (a : ActionTree) → inside_action (out-ActionTree a) + 1 ≤ size-ActionTree a
below_action a = let e = size_is-ActionTree a in let h = weight_action (out-ActionTree a) in omega (arith, e, h)

abbrev size_if : Option ElseTree → ℕ
size_if None = 0
size_if (Some e) = size-ElseTree e

abbrev decided : QuestionTree → EndTree → List BranchTree → Option ElseTree → DecisionLayer
decided q e branches otherwise = record { question = q; «end» = e; branches = branches; otherwise = otherwise }

weight_decision : (q : QuestionTree) (e : EndTree) (branches : List BranchTree) (otherwise : Option ElseTree)
    → max (most size-BranchTree branches) (size_if otherwise)
    ≤ (Transitions.weighs-DecisionTree).weight (Carrier.Values Transitions.the_members Transitions.the_sigs Transitions.the_carrier) Transitions.the_depth (decided q e branches otherwise)
weight_decision q e branches None = omega arith
weight_decision q e branches (Some x) = omega arith

below_decision : (d : DecisionTree) → max (most size-BranchTree (out-DecisionTree d).branches) (size_if (out-DecisionTree d).otherwise) + 1 ≤ size-DecisionTree d
below_decision d =
    let e = size_is-DecisionTree d in
    let h = weight_decision (out-DecisionTree d).question (out-DecisionTree d).«end» (out-DecisionTree d).branches (out-DecisionTree d).otherwise in
    omega (arith, e, h)

below_branch : (b : BranchTree) → size-TransitionTree (out-BranchTree b).transition + 1 ≤ size-BranchTree b
below_branch b = let e = size_is-BranchTree b in omega (arith, e)

below_else : (x : ElseTree) → size-TransitionTree (out-ElseTree x).transition + 1 ≤ size-ElseTree x
below_else x = let e = size_is-ElseTree x in omega (arith, e)

below_step : (s : StepTree) → size-ActionTree s.action + 1 ≤ size-StepTree s
below_step s = let e = size_is-StepTree s in omega (arith, e)

below_transition : (t : TransitionTree) → most size-StepTree (out-TransitionTree t).steps + 1 ≤ size-TransitionTree t
below_transition t = let e = size_is-TransitionTree t in omega (arith, e)

abbrev inside_inner : InnerLayer → ℕ
inside_inner (open'.InnerTree::Composite c) = size-CompositeTree c
inside_inner (open'.Aggregation a) = size-AggregationTree a
inside_inner _ = 0

weight_inner : (x : InnerLayer) → inside_inner x ≤ (States.weighs-InnerTree).weight (Carrier.Values States.the_members States.the_sigs States.the_carrier) States.the_depth x
weight_inner (open'.InnerTree::Dcl dcl) = omega arith
weight_inner (open'.InnerTree::Timer timer) = omega arith
weight_inner (open'.InnerTree::Procedure procedure) = omega arith
weight_inner (open'.Start start) = omega arith
weight_inner (open'.State state) = omega arith
weight_inner (open'.InnerTree::Composite c) = omega arith
weight_inner (open'.Aggregation a) = omega arith
weight_inner (open'.Connection connection) = omega arith

below_inner : (i : InnerTree) → inside_inner (out-InnerTree i) + 1 ≤ size-InnerTree i
below_inner i = let e = size_is-InnerTree i in let h = weight_inner (out-InnerTree i) in omega (arith, e, h)

abbrev inside_partition : PartitionLayer → ℕ
inside_partition (open'.AggregationPart::Composite c) = size-CompositeTree c
inside_partition _ = 0

weight_partition : (x : PartitionLayer) → inside_partition x ≤ (States.weighs-AggregationPart).weight (Carrier.Values States.the_members States.the_sigs States.the_carrier) States.the_depth x
weight_partition (open'.AggregationPart::Dcl dcl) = omega arith
weight_partition (open'.AggregationPart::Timer timer) = omega arith
weight_partition (open'.AggregationPart::Procedure procedure) = omega arith
weight_partition (open'.Empty state) = omega arith
weight_partition (open'.AggregationPart::Composite c) = omega arith

below_partition : (p : AggregationPart) → inside_partition (out-AggregationPart p) + 1 ≤ size-AggregationPart p
below_partition p = let e = size_is-AggregationPart p in let h = weight_partition (out-AggregationPart p) in omega (arith, e, h)

below_composite : (c : CompositeTree) → most size-InnerTree c.parts + 1 ≤ size-CompositeTree c
below_composite c = let e = size_is-CompositeTree c in omega (arith, e)

below_aggregation : (a : AggregationTree) → most size-AggregationPart a.parts + 1 ≤ size-AggregationTree a
below_aggregation a = let e = size_is-AggregationTree a in omega (arith, e)

left_most : (a b k : ℕ) → max a b ≤ k → a ≤ k
left_most a b k p = omega (arith, p)

right_most : (a b k : ℕ) → max a b ≤ k → b ≤ k
right_most a b k p = omega (arith, p)

-- ---- places and forms

abbrev Each : (Place → Type 0) → Places → Type 0
Each P places = AllByRecursion P places

abbrev Stand : (Place → Type 0) → Forms → Type 0
Stand P forms = AllByRecursion (λ (f : FormAt). P f.place) forms

module _ (P : Place → Type 0) where
  left : (ps qs : Places) → Each P (ps ++ qs) → Each P ps
  left [] qs all = tt
  left (p ∷ ps) qs all = (all.0, left ps qs all.1)

  right : (ps qs : Places) → Each P (ps ++ qs) → Each P qs
  right [] qs all = all
  right (p ∷ ps) qs all = right ps qs all.1

  stand_both : (fs gs : Forms) → Stand P fs → Stand P gs → Stand P (fs ++ gs)
  stand_both [] gs x y = y
  stand_both (f ∷ fs) gs x y = (x.0, stand_both fs gs x.1 y)

  when_stands : (b : Bool) (f : Form) (place : Place) → P place → Stand P (when b f place)
  when_stands true f place p = (p, tt)
  when_stands false f place p = tt

  -- from places and forms to those of the parts
  across : {ps qs : Places} {fs gs : Forms} → ps ≡ qs → fs ≡ gs → (Each P qs → Stand P gs) → Each P ps → Stand P fs
  across e f stand all = subst (λ (z : Forms). Stand P z) (sym f) (stand (subst (λ (z : Places). Each P z) e all))

  each_stands : {X : Type 0} (places : X → Places) (forms : X → Forms) → ((x : X) → Each P (places x) → Stand P (forms x)) → (xs : List X)
      → Each P (flat_map places xs) → Stand P (flat_map forms xs)
  each_stands places forms stand [] all = tt
  each_stands places forms stand (x ∷ xs) all =
      stand_both (forms x) (flat_map forms xs) (stand x (left (places x) (flat_map places xs) all))
      (each_stands places forms stand xs (right (places x) (flat_map places xs) all))

  -- where it holds of trees up to this size
  small_stand : {X : Type 0} (size : X → ℕ) (k : ℕ) (places : X → Places) (forms : X → Forms) → ((x : X) → size x ≤ k → Each P (places x) → Stand P (forms x)) → (xs : List X)
      → most size xs ≤ k → Each P (flat_map places xs) → Stand P (flat_map forms xs)
  small_stand size k places forms stand [] p all = tt
  small_stand size k places forms stand (x ∷ xs) p all =
      stand_both (forms x) (flat_map forms xs) (stand x (left_most (size x) (most size xs) k p) (left (places x) (flat_map places xs) all))
      (small_stand size k places forms stand xs (right_most (size x) (most size xs) k p) (right (places x) (flat_map places xs) all))

  -- ---- actions and terminators

  label_stands : (label : Option Name) → Each P (places_if places_in_name label) → Stand P (in_label label)
  label_stands None all = tt
  label_stands (Some name) all = (all.0, tt)

  assign_stands : (a : AssignTree) → Each P (places_in_assign a) → Stand P (in_assign a)
  assign_stands a all =
      let target = subst (λ (z : Places). Each P z) (keeping.of-var a.target) (left (places_in_var a.target) (places_in_assigned a.value) all) in
      when_stands (not (is_value a)) form.AssignedCall (out-VarTree a.target).name.place target.0

  task_stands : (assigns : List AssignTree) (place : Place) → P place → Each P (flat_map places_in_assign assigns) → Stand P (in_task assigns place)
  task_stands assigns place p all =
      stand_both (when (list_any is_value assigns) form.Assignment place) (flat_map in_assign assigns) (when_stands (list_any is_value assigns) form.Assignment place p)
      (each_stands places_in_assign in_assign assign_stands assigns all)

  output_stands : (outs : List OutTree) (place : Place) → P place → Stand P (in_output outs place)
  output_stands outs place p =
      stand_both (when (are_several outs) form.SeveralOutputs place) (when (list_any has_values outs) form.OutputValues place)
      (when_stands (are_several outs) form.SeveralOutputs place p) (when_stands (list_any has_values outs) form.OutputValues place p)

  end_stands : (k : TerminatorKind) (place : Place) → P place → Stand P (in_end k place)
  end_stands (kind.Dash dash) place p = (p, tt)
  end_stands (kind.History dash) place p = (p, tt)
  end_stands (kind.Next state None) place p = tt
  end_stands (kind.Next state (Some via)) place p = (p, tt)
  end_stands (kind.Join label) place p = (p, tt)
  end_stands (kind.Return result) place p = (p, tt)
  end_stands kind.Stop place p = (p, tt)

  terminator_stands : (t : TerminatorTree) → Each P (places_in_terminator t) → Stand P (in_terminator t)
  terminator_stands t all =
      stand_both (in_label t.label) (in_end t.kind t.place)
      (label_stands t.label (left (places_if places_in_name t.label) (t.place ∷ (places_in_kind t.kind ++ places_in_end t.«end»)) all))
      (end_stands t.kind t.place (right (places_if places_in_name t.label) (t.place ∷ (places_in_kind t.kind ++ places_in_end t.«end»)) all).0)

  last_stands : (o : Option TerminatorTree) → Each P (places_if places_in_terminator o) → Stand P (maybe in_terminator o)
  last_stands None all = tt
  last_stands (Some t) all = terminator_stands t all

  -- ---- transitions, where it holds of those up to a size

  abbrev Inner : ℕ → Type 0
  Inner n = (t : TransitionTree) → size-TransitionTree t ≤ n → Each P (places_in_transition t) → Stand P (in_transition t)

  branch_stands : (n : ℕ) → Inner n → (b : BranchTree) → size-BranchTree b ≤ n → Each P (places_in_branch b) → Stand P (in_branch b)
  branch_stands n stand b p all =
      let below = below_branch b in
      across (keeping.of-branch b) (standing.of-branch b)
      (λ each. stand (out-BranchTree b).transition (omega (arith, p, below)) (right (flat_map places_in_answer (out-BranchTree b).answers) (places_in_transition (out-BranchTree b).transition) each.1)) all

  else_stands : (n : ℕ) → Inner n → (x : ElseTree) → size-ElseTree x ≤ n → Each P (places_in_else x) → Stand P (in_else x)
  else_stands n stand x p all =
      let below = below_else x in
      across (keeping.of-else x) (standing.of-else x) (λ each. stand (out-ElseTree x).transition (omega (arith, p, below)) each.1) all

  otherwise_stands : (n : ℕ) → Inner n → (o : Option ElseTree) → size_if o ≤ n → Each P (places_if places_in_else o) → Stand P (maybe in_else o)
  otherwise_stands n stand None p all = tt
  otherwise_stands n stand (Some x) p all = else_stands n stand x p all

  choice_stands : (n : ℕ) → Inner n → (branches : List BranchTree) (otherwise : Option ElseTree) → max (most size-BranchTree branches) (size_if otherwise) ≤ n
      → Each P (flat_map places_in_branch branches ++ places_if places_in_else otherwise) → Stand P (flat_map in_branch branches ++ maybe in_else otherwise)
  choice_stands n stand branches otherwise p all =
      stand_both (flat_map in_branch branches) (maybe in_else otherwise)
      (small_stand size-BranchTree n places_in_branch in_branch (branch_stands n stand) branches (left_most (most size-BranchTree branches) (size_if otherwise) n p)
      (left (flat_map places_in_branch branches) (places_if places_in_else otherwise) all))
      (otherwise_stands n stand otherwise (right_most (most size-BranchTree branches) (size_if otherwise) n p)
      (right (flat_map places_in_branch branches) (places_if places_in_else otherwise) all))

  -- of a list behind two others
  third : (ps qs rs : Places) → Each P (ps ++ (qs ++ rs)) → Each P rs
  third ps qs rs all = right qs rs (right ps (qs ++ rs) all)

  decision_stands : (n : ℕ) → Inner n → (d : DecisionTree) → size-DecisionTree d ≤ n → Each P (places_in_decision d) → Stand P (in_decision d)
  decision_stands n stand d p all =
      let below = below_decision d in
      across (keeping.of-decision d) (standing.of-decision d)
      (λ each. choice_stands n stand (out-DecisionTree d).branches (out-DecisionTree d).otherwise (omega (arith, p, below))
      (third (places_in_question (out-DecisionTree d).question) (places_in_end (out-DecisionTree d).«end»)
      (flat_map places_in_branch (out-DecisionTree d).branches ++ places_if places_in_else (out-DecisionTree d).otherwise) each)) all

  abbrev ActionStands : Place → ActionTree → Type 0
  ActionStands place a = Each P (places_in_action a) → Stand P (in_action a place)

  action_by : (n : ℕ) → Inner n → (x : ActionLayer) → inside_action x ≤ n → (place : Place) → P place → ActionStands place (roll-ActionTree x)
  action_by n stand (action.Informal text) p place here =
      subst (λ (a : ActionTree). ActionStands place a) (sym (rolls-Informal text)) (across (keeping.of-Informal text) (standing.of-Informal text place) (λ each. (here, tt)))
  action_by n stand (action.Task assigns) p place here =
      subst (λ (a : ActionTree). ActionStands place a) (sym (rolls-Task assigns)) (across (keeping.of-Task assigns) (standing.of-Task assigns place) (task_stands assigns place here))
  action_by n stand (action.Output outs) p place here =
      subst (λ (a : ActionTree). ActionStands place a) (sym (rolls-Output outs)) (across (keeping.of-Output outs) (standing.of-Output outs place) (λ each. output_stands outs place here))
  action_by n stand (action.Call call) p place here =
      subst (λ (a : ActionTree). ActionStands place a) (sym (rolls-Call call)) (across (keeping.of-Call call) (standing.of-Call call place) (λ each. (here, tt)))
  action_by n stand (action.Decision d) p place here =
      subst (λ (a : ActionTree). ActionStands place a) (sym (rolls-Decision d))
      (across (keeping.of-Decision d) (standing.of-Decision d place) (λ each. (here, decision_stands n stand d p each)))

  action_stands : (n : ℕ) → Inner n → (a : ActionTree) → size-ActionTree a ≤ n → (place : Place) → P place → ActionStands place a
  action_stands n stand a p place here =
      let below = below_action a in
      subst (λ (z : ActionTree). ActionStands place z) (roll-out-ActionTree a) (action_by n stand (out-ActionTree a) (omega (arith, p, below)) place here)

  parts_of_step_stand : (n : ℕ) → Inner n → (s : StepTree) → size-StepTree s ≤ n
      → Each P (places_if places_in_name s.label ++ (s.place ∷ (places_in_action s.action ++ places_in_end s.«end»))) → Stand P (in_label s.label ++ in_action s.action s.place)
  parts_of_step_stand n stand s p each =
      let below = below_step s in
      let behind = right (places_if places_in_name s.label) (s.place ∷ (places_in_action s.action ++ places_in_end s.«end»)) each in
      stand_both (in_label s.label) (in_action s.action s.place)
      (label_stands s.label (left (places_if places_in_name s.label) (s.place ∷ (places_in_action s.action ++ places_in_end s.«end»)) each))
      (action_stands n stand s.action (omega (arith, p, below)) s.place behind.0 (left (places_in_action s.action) (places_in_end s.«end») behind.1))

  step_stands : (n : ℕ) → Inner n → (s : StepTree) → size-StepTree s ≤ n → Each P (places_in_step s) → Stand P (in_step s)
  step_stands n stand s p all = across (keeping.of-step s) (standing.of-step s) (parts_of_step_stand n stand s p) all

  steps_stand : (n : ℕ) → Inner n → (steps : List StepTree) (end : Option TerminatorTree) → most size-StepTree steps ≤ n
      → Each P (flat_map places_in_step steps ++ places_if places_in_terminator end) → Stand P (flat_map in_step steps ++ maybe in_terminator end)
  steps_stand n stand steps end p each =
      stand_both (flat_map in_step steps) (maybe in_terminator end)
      (small_stand size-StepTree n places_in_step in_step (step_stands n stand) steps p (left (flat_map places_in_step steps) (places_if places_in_terminator end) each))
      (last_stands end (right (flat_map places_in_step steps) (places_if places_in_terminator end) each))

  transition_within : (n : ℕ) (t : TransitionTree) → size-TransitionTree t ≤ n → Each P (places_in_transition t) → Stand P (in_transition t)
  transition_within zero t p all = let below = below_transition t in absurd (omega (arith, p, below))
  transition_within (suc n) t p all =
      let below = below_transition t in
      across (keeping.of-transition t) (standing.of-transition t)
      (steps_stand n (transition_within n) (out-TransitionTree t).steps (out-TransitionTree t).terminator (omega (arith, p, below))) all

  transition_stands : (t : TransitionTree) → Each P (places_in_transition t) → Stand P (in_transition t)
  transition_stands t all = transition_within (size-TransitionTree t) t (le_refl _) all

  -- ---- starts, states and procedures

  start_stands : (s : StartTree) → Each P (places_in_start s) → Stand P (in_start s)
  start_stands s all =
      stand_both (when (is_some s.name) form.NamedStart s.place) (in_transition s.transition) (when_stands (is_some s.name) form.NamedStart s.place all.0)
      (transition_stands s.transition (third (places_if places_in_name s.name) (places_in_end s.«end») (places_in_transition s.transition) all.1))

  list_stands : (l : ListTree) (place : Place) → P place → Stand P (in_list l place)
  list_stands (list.Names names) place p = when_stands (are_several names) form.SeveralStates place p
  list_stands (list.All star names) place p = (p, tt)

  enabling_stands : (o : Option EnablingTree) → Each P (places_if places_in_enabling o) → Stand P (in_enabling o)
  enabling_stands None all = tt
  enabling_stands (Some e) all = (all.0, tt)

  input_stands : (i : InputTree) → Each P (places_in_input i) → Stand P (in_input i)
  input_stands i all =
      let behind = third (flat_map places_in_in i.inputs) (places_in_end i.«end») (places_if places_in_enabling i.enabling ++ places_in_transition i.transition) all.1 in
      stand_both (when (are_several i.inputs) form.SeveralInputs i.place) (when (list_any has_variables i.inputs) form.InputVariables i.place ++ (in_enabling i.enabling ++ in_transition i.transition))
      (when_stands (are_several i.inputs) form.SeveralInputs i.place all.0)
      (stand_both (when (list_any has_variables i.inputs) form.InputVariables i.place) (in_enabling i.enabling ++ in_transition i.transition)
      (when_stands (list_any has_variables i.inputs) form.InputVariables i.place all.0)
      (stand_both (in_enabling i.enabling) (in_transition i.transition) (enabling_stands i.enabling (left (places_if places_in_enabling i.enabling) (places_in_transition i.transition) behind))
      (transition_stands i.transition (right (places_if places_in_enabling i.enabling) (places_in_transition i.transition) behind))))

  part_stands : (p : PartTree) → Each P (places_in_part p) → Stand P (in_part p)
  part_stands (part.Input i) all = input_stands i all
  part_stands (part.Provided p) all =
      let behind = third (places_in_expr p.condition) (places_in_end p.«end») (places_if places_in_priority p.priority ++ places_in_transition p.transition) all.1 in
      (all.0, transition_stands p.transition (right (places_if places_in_priority p.priority) (places_in_transition p.transition) behind))
  part_stands (part.Connect c) all = (all.0, transition_stands c.transition (third (places_in_names c.names) (places_in_end c.«end») (places_in_transition c.transition) all.1))
  part_stands (part.Save s) all = (all.0, tt)

  state_stands : (s : StateTree) → Each P (places_in_state s) → Stand P (in_state s)
  state_stands s all =
      let behind = third (places_in_list s.list) (places_in_end s.«end») (flat_map places_in_part s.parts ++ places_in_closing s.closing) all.1 in
      stand_both (in_list s.list s.place) (flat_map in_part s.parts) (list_stands s.list s.place all.0)
      (each_stands places_in_part in_part part_stands s.parts (left (flat_map places_in_part s.parts) (places_in_closing s.closing) behind))

  dcl_stands : (d : DclTree) → Each P (places_in_dcl d) → Stand P (in_dcl d)
  dcl_stands d all = (all.0, tt)

  connection_stands : (c : ConnectionTree) → Each P (places_in_connection c) → Stand P (in_connection c)
  connection_stands c all = (all.0, transition_stands c.transition (left (places_in_transition c.transition) (places_in_end c.«end») all.1.1))

  body_stands : (b : ProcedureBody) → Each P (places_in_body b) → Stand P (in_body b)
  body_stands (body.External place end) all = tt
  body_stands (body.Own dcls place end transition connections closing) all =
      let inside = places_in_transition transition ++ (flat_map places_in_connection connections ++ places_in_closing closing) in
      let behind = right (places_in_end end) inside (right (flat_map places_in_dcl dcls) (place ∷ (places_in_end end ++ inside)) all).1 in
      stand_both (flat_map in_dcl dcls) (in_transition transition ++ flat_map in_connection connections)
      (each_stands places_in_dcl in_dcl dcl_stands dcls (left (flat_map places_in_dcl dcls) (place ∷ (places_in_end end ++ inside)) all))
      (stand_both (in_transition transition) (flat_map in_connection connections)
      (transition_stands transition (left (places_in_transition transition) (flat_map places_in_connection connections ++ places_in_closing closing) behind))
      (each_stands places_in_connection in_connection connection_stands connections
      (left (flat_map places_in_connection connections) (places_in_closing closing)
      (right (places_in_transition transition) (flat_map places_in_connection connections ++ places_in_closing closing) behind))))

  procedure_stands : (p : ProcedureTree) → Each P (places_in_procedure p) → Stand P (in_procedure p)
  procedure_stands p all =
      let behind = right (places_in_end p.«end») (places_if places_in_fpar p.fpar ++ (places_if places_in_returns p.returns ++ places_in_body p.body)) all.1.1 in
      (all.0, body_stands p.body (third (places_if places_in_fpar p.fpar) (places_if places_in_returns p.returns) (places_in_body p.body) behind))

  -- ---- what stands in processes and composite states, where it holds of what has at most a size

  abbrev InnerStands : InnerTree → Type 0
  InnerStands i = Each P (places_in_inner i) → Stand P (in_inner i)

  abbrev Deeper : ℕ → Type 0
  Deeper n = (i : InnerTree) → size-InnerTree i ≤ n → InnerStands i

  composite_stands : (n : ℕ) → Deeper n → (c : CompositeTree) → size-CompositeTree c ≤ n → Each P (places_in_composite c) → Stand P (in_composite c)
  composite_stands n stand c p all =
      let below = below_composite c in
      across (keeping.of-composite c) (standing.of-composite c)
      (λ each. (
        each.0,
        small_stand size-InnerTree n places_in_inner in_inner stand c.parts (omega (arith, p, below))
            (left (flat_map places_in_inner c.parts) (places_in_closing c.closing)
            (third (places_in_end c.«end») (flat_map places_in_points c.points) (flat_map places_in_inner c.parts ++ places_in_closing c.closing) each.1.1)),
      )) all

  abbrev PartitionStands : AggregationPart → Type 0
  PartitionStands p = Each P (places_in_partition p) → Stand P (in_partition p)

  partition_by : (n : ℕ) → Deeper n → (x : PartitionLayer) → inside_partition x ≤ n → PartitionStands (roll-AggregationPart x)
  partition_by n stand (open'.AggregationPart::Dcl dcl) p =
      subst PartitionStands (sym (partition.rolls-Dcl dcl)) (across (keeping.of-Dcl-partition dcl) (standing.of-Dcl-partition dcl) (dcl_stands dcl))
  partition_by n stand (open'.AggregationPart::Timer timer) p =
      subst PartitionStands (sym (partition.rolls-Timer timer)) (across (keeping.of-Timer-partition timer) (standing.of-Timer-partition timer) (λ each. (each.0, tt)))
  partition_by n stand (open'.AggregationPart::Procedure procedure) p =
      subst PartitionStands (sym (partition.rolls-Procedure procedure)) (across (keeping.of-Procedure-partition procedure) (standing.of-Procedure-partition procedure) (procedure_stands procedure))
  partition_by n stand (open'.Empty state) p =
      subst PartitionStands (sym (partition.rolls-Empty state)) (across (keeping.of-Empty-partition state) (standing.of-Empty-partition state) (λ each. tt))
  partition_by n stand (open'.AggregationPart::Composite c) p =
      subst PartitionStands (sym (partition.rolls-Composite c)) (across (keeping.of-Composite-partition c) (standing.of-Composite-partition c) (composite_stands n stand c p))

  partition_stands : (n : ℕ) → Deeper n → (x : AggregationPart) → size-AggregationPart x ≤ n → PartitionStands x
  partition_stands n stand x p = let below = below_partition x in subst PartitionStands (roll-out-AggregationPart x) (partition_by n stand (out-AggregationPart x) (omega (arith, p, below)))

  aggregation_stands : (n : ℕ) → Deeper n → (a : AggregationTree) → size-AggregationTree a ≤ n → Each P (places_in_aggregation a) → Stand P (in_aggregation a)
  aggregation_stands n stand a p all =
      let below = below_aggregation a in
      across (keeping.of-aggregation a) (standing.of-aggregation a)
      (λ each. (
        each.0,
        small_stand size-AggregationPart n places_in_partition in_partition (partition_stands n stand) a.parts (omega (arith, p, below))
            (left (flat_map places_in_partition a.parts) (places_in_closing a.closing)
            (third (places_in_end a.«end») (flat_map places_in_points a.points) (flat_map places_in_partition a.parts ++ places_in_closing a.closing) each.1.1)),
      )) all

  inner_by : (n : ℕ) → Deeper n → (x : InnerLayer) → inside_inner x ≤ n → InnerStands (roll-InnerTree x)
  inner_by n stand (open'.InnerTree::Dcl dcl) p = subst InnerStands (sym (inner.rolls-Dcl dcl)) (across (keeping.of-Dcl-inner dcl) (standing.of-Dcl-inner dcl) (dcl_stands dcl))
  inner_by n stand (open'.InnerTree::Timer timer) p =
      subst InnerStands (sym (inner.rolls-Timer timer)) (across (keeping.of-Timer-inner timer) (standing.of-Timer-inner timer) (λ each. (each.0, tt)))
  inner_by n stand (open'.InnerTree::Procedure procedure) p =
      subst InnerStands (sym (inner.rolls-Procedure procedure)) (across (keeping.of-Procedure-inner procedure) (standing.of-Procedure-inner procedure) (procedure_stands procedure))
  inner_by n stand (open'.Start start) p = subst InnerStands (sym (inner.rolls-Start start)) (across (keeping.of-Start-inner start) (standing.of-Start-inner start) (start_stands start))
  inner_by n stand (open'.State state) p = subst InnerStands (sym (inner.rolls-State state)) (across (keeping.of-State-inner state) (standing.of-State-inner state) (state_stands state))
  inner_by n stand (open'.InnerTree::Composite c) p =
      subst InnerStands (sym (inner.rolls-Composite c)) (across (keeping.of-Composite-inner c) (standing.of-Composite-inner c) (composite_stands n stand c p))
  inner_by n stand (open'.Aggregation a) p =
      subst InnerStands (sym (inner.rolls-Aggregation a)) (across (keeping.of-Aggregation-inner a) (standing.of-Aggregation-inner a) (aggregation_stands n stand a p))
  inner_by n stand (open'.Connection connection) p =
      subst InnerStands (sym (inner.rolls-Connection connection)) (across (keeping.of-Connection-inner connection) (standing.of-Connection-inner connection) (connection_stands connection))

  inner_within : (n : ℕ) (i : InnerTree) → size-InnerTree i ≤ n → InnerStands i
  inner_within zero i p = let below = below_inner i in absurd (omega (arith, p, below))
  inner_within (suc n) i p = let below = below_inner i in subst InnerStands (roll-out-InnerTree i) (inner_by n (inner_within n) (out-InnerTree i) (omega (arith, p, below)))

  inner_stands : (i : InnerTree) → InnerStands i
  inner_stands i = inner_within (size-InnerTree i) i (le_refl _)

  -- ---- units

  signal_stands : (s : SignalTree) → Each P (places_in_signal s) → Stand P (in_signal s)
  signal_stands s all = when_stands (list_any has_parameters s.signals) form.Parameters s.place all.0

  block_part_stands : (p : BlockPart) → Each P (places_in_block_part p) → Stand P (in_block_part p)
  block_part_stands (member.Signal s) all = signal_stands s all
  block_part_stands (member.Route r) all = tt
  block_part_stands (member.Link l) all = tt
  block_part_stands (member.Process p) all =
      each_stands places_in_inner in_inner inner_stands p.parts
      (left (flat_map places_in_inner p.parts) (places_in_closing p.closing)
      (third (places_if places_in_count p.count) (places_in_end p.«end») (flat_map places_in_inner p.parts ++ places_in_closing p.closing) all.1.1))
  block_part_stands (member.Reference r) all = tt

  system_part_stands : (p : SystemPart) → Each P (places_in_system_part p) → Stand P (in_system_part p)
  system_part_stands (piece.Use u) all = tt
  system_part_stands (piece.Signal s) all = signal_stands s all
  system_part_stands (piece.Channel c) all = tt
  system_part_stands (piece.Procedure p) all = procedure_stands p all
  system_part_stands (piece.Block b) all =
      each_stands places_in_block_part in_block_part block_part_stands b.parts
      (left (flat_map places_in_block_part b.parts) (places_in_closing b.closing)
      (right (places_in_end b.«end») (flat_map places_in_block_part b.parts ++ places_in_closing b.closing) all.1.1))

  unit_stands : (u : UnitTree) → Each P (places_in_unit u) → Stand P (in_unit u)
  unit_stands (unit.Use u) all = tt
  unit_stands (unit.System s) all =
      each_stands places_in_system_part in_system_part system_part_stands s.parts
      (left (flat_map places_in_system_part s.parts) (places_in_closing s.closing)
      (right (places_in_end s.«end») (flat_map places_in_system_part s.parts ++ places_in_closing s.closing) all.1.1))
  unit_stands (unit.Process p) all =
      each_stands places_in_inner in_inner inner_stands p.parts
      (left (flat_map places_in_inner p.parts) (places_in_closing p.closing)
      (third (places_if places_in_count p.count) (places_in_end p.«end») (flat_map places_in_inner p.parts ++ places_in_closing p.closing) all.1.1))

  units_stand : (units : List UnitTree) → Each P (places_in_units units) → Stand P (forms_in units)
  units_stand units all = each_stands places_in_unit in_unit unit_stands units all

  -- ---- violations

  abbrev Told : List Violation → Type 0
  Told vs = AllByRecursion (λ (v : Violation). P v.place) vs

  one_told : (built : Bool) (place : Place) (vs : List Violation) → P place → Told vs → Told ((if built then [] else (record { rule = F1; place = place } ∷ [])) ++ vs)
  one_told true place vs p told = told
  one_told false place vs p told = (p, told)

  forms_told : (fs : Forms) → Stand P fs → Told (unbuilt fs)
  forms_told [] all = tt
  forms_told (f ∷ fs) all = one_told (is_built f.form) f.place (unbuilt fs) all.0 (forms_told fs all.1)

  abbrev ToldFirst : Option Violation → Type 0
  ToldFirst None = Unit {0}
  ToldFirst (Some v) = P v.place

  one_of : (b : Bool) (v w : Violation) → P v.place → P w.place → ToldFirst (if b then Some v else Some w)
  one_of true v w p q = p
  one_of false v w p q = q

  sooner_told : (best : Option Violation) (v : Violation) → ToldFirst best → P v.place → ToldFirst (sooner best v)
  sooner_told None v b p = p
  sooner_told (Some w) v b p = one_of (comes_before v w) v w p b

  first_told : (best : Option Violation) (vs : List Violation) → ToldFirst best → Told vs → ToldFirst (first_from best vs)
  first_told best [] b told = b
  first_told best (v ∷ vs) b told = first_told (sooner best v) vs (sooner_told best v b told.0) told.1

-- ---- among the places of units

abbrev IsKept : List UnitTree → Place → Type 0
IsKept units p = Contains (places_in_units units) p

all_stand : (units : List UnitTree) → Stand (IsKept units) (forms_in units)
all_stand units = units_stand (IsKept units) units (recursion_from_All (IsKept units) (places_in_units units) (All-contains_itself (places_in_units units)))

all_told : (units : List UnitTree) → AllByRecursion (λ (v : Violation). IsKept units v.place) (unbuilt_in units)
all_told units = forms_told (IsKept units) (forms_in units) (all_stand units)

pub form_stands : (units : List UnitTree) (f : FormAt) → Contains (forms_in units) f → Contains (places_in_units units) f.place
form_stands units f c = All-contains (λ (g : FormAt). IsKept units g.place) (forms_in units) f (All-from_recursion (λ (g : FormAt). IsKept units g.place) (forms_in units) (all_stand units)) c

pub violation_stands : (units : List UnitTree) (v : Violation) → Contains (unbuilt_in units) v → Contains (places_in_units units) v.place
violation_stands units v c = All-contains (λ (w : Violation). IsKept units w.place) (unbuilt_in units) v (All-from_recursion (λ (w : Violation). IsKept units w.place) (unbuilt_in units) (all_told units)) c

pub first_stands : (units : List UnitTree) (v : Violation) → first_of (unbuilt_in units) ≡ Some v → Contains (places_in_units units) v.place
first_stands units v e = subst (ToldFirst (IsKept units)) e (first_told (IsKept units) None (unbuilt_in units) tt (all_told units))
