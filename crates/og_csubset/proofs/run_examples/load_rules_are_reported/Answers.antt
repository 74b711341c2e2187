use Rattle.og_csubset.proofs.ExampleRuns.{nothing_to_do_loads, breaks_k3, breaks_k4, array_without_an_index, number_into_a_struct, unknown_global, struct_into_a_number, index_of_a_number, unknown_member, missing_label, label_twice, equal_cases, calls_a_later_function, too_many_cells, missing_function, foreign_event, event_of_any_signal, field_of_another_shape, field_not_needed}
use Rattle.og_csubset.proofs.run_examples.load_rules_are_reported.Goals as goal

pub returns-clause-nothing_to_do_loads : goal.returns-clause-nothing_to_do_loads
returns-clause-nothing_to_do_loads c = nothing_to_do_loads

pub returns-clause-breaks_k3 : goal.returns-clause-breaks_k3
returns-clause-breaks_k3 c = breaks_k3

pub returns-clause-breaks_k4 : goal.returns-clause-breaks_k4
returns-clause-breaks_k4 c = breaks_k4

pub returns-clause-array_without_an_index : goal.returns-clause-array_without_an_index
returns-clause-array_without_an_index c = array_without_an_index

pub returns-clause-number_into_a_struct : goal.returns-clause-number_into_a_struct
returns-clause-number_into_a_struct c = number_into_a_struct

pub returns-clause-unknown_global : goal.returns-clause-unknown_global
returns-clause-unknown_global c = unknown_global

pub returns-clause-struct_into_a_number : goal.returns-clause-struct_into_a_number
returns-clause-struct_into_a_number c = struct_into_a_number

pub returns-clause-index_of_a_number : goal.returns-clause-index_of_a_number
returns-clause-index_of_a_number c = index_of_a_number

pub returns-clause-unknown_member : goal.returns-clause-unknown_member
returns-clause-unknown_member c = unknown_member

pub returns-clause-missing_label : goal.returns-clause-missing_label
returns-clause-missing_label c = missing_label

pub returns-clause-label_twice : goal.returns-clause-label_twice
returns-clause-label_twice c = label_twice

pub returns-clause-equal_cases : goal.returns-clause-equal_cases
returns-clause-equal_cases c = equal_cases

pub returns-clause-calls_a_later_function : goal.returns-clause-calls_a_later_function
returns-clause-calls_a_later_function c = calls_a_later_function

pub returns-clause-too_many_cells : goal.returns-clause-too_many_cells
returns-clause-too_many_cells c = too_many_cells

pub returns-clause-missing_function : goal.returns-clause-missing_function
returns-clause-missing_function c = missing_function

pub returns-clause-foreign_event : goal.returns-clause-foreign_event
returns-clause-foreign_event c = foreign_event

pub returns-clause-event_of_any_signal : goal.returns-clause-event_of_any_signal
returns-clause-event_of_any_signal c = event_of_any_signal

pub returns-clause-field_of_another_shape : goal.returns-clause-field_of_another_shape
returns-clause-field_of_another_shape c = field_of_another_shape

pub returns-clause-field_not_needed : goal.returns-clause-field_not_needed
returns-clause-field_not_needed c = field_not_needed
