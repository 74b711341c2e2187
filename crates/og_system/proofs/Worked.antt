-- The worked examples of transitions, from what is said of their parts.
use Rattle.std.proofs.Common.{◌≡◌, Bool, ◌||◌, List, map, Option, is_some, refl}
use Rattle.og_base.specs.declared.Place.{Place}
use Rattle.og_ast.specs.declared.transition.AnswerTree.{AnswerTree}
use Rattle.og_ast.specs.declared.transition.BranchTree.{roll-BranchTree, fold-roll-BranchTree}
use Rattle.og_ast.specs.declared.transition.ElseTree.{roll-ElseTree, fold-roll-ElseTree}
use Rattle.og_ast.specs.declared.transition.StepTree.{StepTree}
use Rattle.og_ast.specs.declared.transition.TerminatorTree.{TerminatorTree}
use Rattle.og_ast.specs.declared.transition.TransitionTree.{TransitionTree, fold-roll-TransitionTree}
use Rattle.og_system.specs.Closing.{does_last, transition_layer, step_layer, action_layer, decision_layer, branch_layer, else_layer, closes, step_closes, branch_closes, else_closes}
use Rattle.og_system.specs.ClosingExamples.{goes, StopCloses, TaskAloneDoesNot, NothingDoesNot, EachBranchCloses, BranchesWithoutElse, OneBranchDoesNot, ElseDoesNot, TaskBehindADecision, DecisionInABranch, StartAndStop, NoStart, NamedStartAlone, InAState, CompositeAndPartition, ProcedureOfASystem}
use Rattle.og_system.proofs.Opens.{of-step, of-Informal, of-Decision, of-choice, of-composite, of-aggregation, starts-Start, in-Start, starts-State, in-State, starts-Composite, in-Composite, starts-Aggregation, in-Aggregation, of-Composite-partition}

of-goes : (steps : List StepTree) (end : Option TerminatorTree) → closes (goes steps end) ≡ (is_some end || does_last (map step_closes steps))
unfolding closes step_closes
of-goes steps end =
    fold-roll-TransitionTree Bool Bool Bool Bool Bool Bool action_layer branch_layer decision_layer else_layer step_layer transition_layer (record { steps = steps; terminator = end })

of-way : (place : Place) (answers : List AnswerTree) (t : TransitionTree) → branch_closes (roll-BranchTree (record { place = place; answers = answers; transition = t })) ≡ closes t
unfolding branch_closes closes
of-way place answers t =
    fold-roll-BranchTree Bool Bool Bool Bool Bool Bool action_layer branch_layer decision_layer else_layer step_layer transition_layer (record { place = place; answers = answers; transition = t })

of-other : (place : Place) (t : TransitionTree) → else_closes (roll-ElseTree (record { place = place; transition = t })) ≡ closes t
unfolding else_closes closes
of-other place t = fold-roll-ElseTree Bool Bool Bool Bool Bool Bool action_layer branch_layer decision_layer else_layer step_layer transition_layer (record { place = place; transition = t })

pub stop_closes : StopCloses
stop_closes = simp (of-goes, of-step, of-Informal) refl

pub task_alone_does_not : TaskAloneDoesNot
task_alone_does_not = simp (of-goes, of-step, of-Informal) refl

pub nothing_does_not : NothingDoesNot
nothing_does_not = simp (of-goes) refl

pub each_branch_closes : EachBranchCloses
each_branch_closes = simp (of-goes, of-step, of-Informal, of-Decision, of-choice, of-way, of-other) refl

pub branches_without_else : BranchesWithoutElse
branches_without_else = simp (of-goes, of-step, of-Decision, of-choice, of-way) refl

pub one_branch_does_not : OneBranchDoesNot
one_branch_does_not = simp (of-goes, of-step, of-Decision, of-choice, of-way, of-other) refl

pub else_does_not : ElseDoesNot
else_does_not = simp (of-goes, of-step, of-Decision, of-choice, of-way, of-other) refl

pub task_behind_a_decision : TaskBehindADecision
task_behind_a_decision = simp (of-goes, of-step, of-Informal, of-Decision, of-choice, of-way) refl

pub decision_in_a_branch : DecisionInABranch
decision_in_a_branch = simp (of-goes, of-step, of-Decision, of-choice, of-way, of-other) refl

pub start_and_stop : StartAndStop
start_and_stop = simp (starts-Start, in-Start, of-goes) refl

pub no_start : NoStart
no_start = refl

pub named_start_alone : NamedStartAlone
named_start_alone = simp (starts-Start, in-Start, of-goes) refl

pub in_a_state : InAState
in_a_state = simp (starts-Start, in-Start, starts-State, in-State, of-goes) refl

pub composite_and_partition : CompositeAndPartition
composite_and_partition = simp (starts-Start, in-Start, starts-Composite, in-Composite, starts-Aggregation, in-Aggregation, of-aggregation, of-composite, of-Composite-partition, of-goes) refl

pub procedure_of_a_system : ProcedureOfASystem
procedure_of_a_system = simp (starts-Start, in-Start, of-goes) refl
