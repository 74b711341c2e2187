use Rattle.og_forms.proofs.Worked.{labelled_decision, assigned_value_and_call, calls_by_name, outputs_and_via, every_state_saves, basic_state, partition, signal_with_parameter, the_lesser_place, built_forms_alone, built_form_before}
use Rattle.og_forms.proofs.laws.examples.Goals as goal

pub returns-clause-transitions : goal.returns-clause-transitions
returns-clause-transitions c = (labelled_decision, assigned_value_and_call, calls_by_name, outputs_and_via)

pub returns-clause-states : goal.returns-clause-states
returns-clause-states c = (every_state_saves, basic_state, partition)

pub returns-clause-units : goal.returns-clause-units
returns-clause-units c = signal_with_parameter

pub returns-clause-first : goal.returns-clause-first
returns-clause-first c = (the_lesser_place, built_forms_alone, built_form_before)
