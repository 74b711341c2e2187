-- The worked examples, from the forms of their parts.
use Rattle.std.proofs.Common.{◌≡◌, List, [], ◌∷◌, ◌++◌, Option, refl, ap, ◌∙◌}
use Rattle.std.specs.List.{flat_map}
use Rattle.std.proofs.lemmas.List.Folds.{flat_map-map}
use Rattle.og_base.specs.declared.Place.{Place}
use Rattle.og_ast.specs.declared.expression.VarTree.{out-roll-VarTree}
use Rattle.og_ast.specs.declared.transition.BranchTree.{BranchTree, roll-BranchTree, fold-roll-BranchTree}
use Rattle.og_ast.specs.declared.transition.AnswerTree.{AnswerTree}
use Rattle.og_ast.specs.declared.transition.DecisionTree.{DecisionTree, roll-DecisionTree, fold-roll-DecisionTree}
use Rattle.og_ast.specs.declared.transition.ElseTree.{ElseTree, roll-ElseTree, fold-roll-ElseTree}
use Rattle.og_ast.specs.declared.transition.QuestionTree.{QuestionTree}
use Rattle.og_ast.specs.declared.transition.StepTree.{StepTree}
use Rattle.og_ast.specs.declared.transition.TerminatorTree.{TerminatorTree}
use Rattle.og_ast.specs.declared.transition.TransitionTree.{TransitionTree, roll-TransitionTree, fold-roll-TransitionTree}
use Rattle.og_ast.specs.declared.ground.EndTree.{EndTree}
use Rattle.og_forms.specs.Forms.{Forms, is_built, maybe, in_terminator, action_layer, branch_layer, decision_layer, else_layer, step_layer, transition_layer, in_branch, in_decision, in_else, in_step, in_transition}
use Rattle.og_forms.specs.Examples.{goes, LabelledDecision, AssignedValueAndCall, CallsByName, OutputsAndVia, EveryStateSaves, BasicState, Partition, SignalWithParameter, TheLesserPlace, BuiltFormsAlone, BuiltFormBefore}
use Rattle.og_forms.proofs.Opens.{of-choice, of-step, of-Task, of-Output, of-Call, of-Decision, of-aggregation, of-composite, of-Dcl-partition, of-Composite-partition, of-Start-inner}

of-goes : (steps : List StepTree) (end : Option TerminatorTree) → in_transition (goes steps end) ≡ flat_map in_step steps ++ maybe in_terminator end
unfolding in_transition in_step
of-goes steps end =
    fold-roll-TransitionTree (Place → Forms) Forms Forms Forms Forms Forms action_layer branch_layer decision_layer else_layer step_layer transition_layer (record { steps = steps; terminator = end })
    ∙ ap (λ fs. fs ++ maybe in_terminator end) (flat_map-map (λ fs. fs) in_step steps)

of-way : (place : Place) (answers : List AnswerTree) (t : TransitionTree) → in_branch (roll-BranchTree (record { place = place; answers = answers; transition = t })) ≡ in_transition t
unfolding in_branch in_transition
of-way place answers t =
    fold-roll-BranchTree (Place → Forms) Forms Forms Forms Forms Forms action_layer branch_layer decision_layer else_layer step_layer transition_layer (record { place = place; answers = answers; transition = t })

of-other : (place : Place) (t : TransitionTree) → in_else (roll-ElseTree (record { place = place; transition = t })) ≡ in_transition t
unfolding in_else in_transition
of-other place t = fold-roll-ElseTree (Place → Forms) Forms Forms Forms Forms Forms action_layer branch_layer decision_layer else_layer step_layer transition_layer (record { place = place; transition = t })

pub labelled_decision : LabelledDecision
labelled_decision = simp (of-goes, of-step, of-Decision, of-choice, of-way, of-other) refl

pub assigned_value_and_call : AssignedValueAndCall
assigned_value_and_call = simp (of-goes, of-step, of-Task, out-roll-VarTree) refl

pub calls_by_name : CallsByName
calls_by_name = simp (of-goes, of-step, of-Call) refl

pub outputs_and_via : OutputsAndVia
outputs_and_via = simp (of-goes, of-step, of-Output) refl

pub every_state_saves : EveryStateSaves
every_state_saves = simp (of-goes) refl

pub basic_state : BasicState
basic_state = simp (of-goes, of-step, of-Output) refl

pub partition : Partition
partition = simp (of-aggregation, of-composite, of-Dcl-partition, of-Composite-partition, of-Start-inner, of-goes) refl

pub signal_with_parameter : SignalWithParameter
signal_with_parameter = refl

pub the_lesser_place : TheLesserPlace
unfolding is_built
the_lesser_place = refl

pub built_forms_alone : BuiltFormsAlone
unfolding is_built
built_forms_alone = refl

pub built_form_before : BuiltFormBefore
unfolding is_built
built_form_before = refl
