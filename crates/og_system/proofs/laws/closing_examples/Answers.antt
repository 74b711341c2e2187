use Rattle.og_system.proofs.Worked.{stop_closes, task_alone_does_not, nothing_does_not, each_branch_closes, branches_without_else, one_branch_does_not, else_does_not, task_behind_a_decision, decision_in_a_branch, start_and_stop, no_start, named_start_alone, in_a_state, composite_and_partition, procedure_of_a_system}
use Rattle.og_system.proofs.laws.closing_examples.Goals as goal

pub returns-clause-closing : goal.returns-clause-closing
returns-clause-closing c = (stop_closes, task_alone_does_not, nothing_does_not, each_branch_closes, branches_without_else, one_branch_does_not, else_does_not, task_behind_a_decision, decision_in_a_branch)

pub returns-clause-violated : goal.returns-clause-violated
returns-clause-violated c = (start_and_stop, no_start, named_start_alone, in_a_state, composite_and_partition, procedure_of_a_system)
