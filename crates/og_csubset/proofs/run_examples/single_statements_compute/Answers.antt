use Rattle.og_csubset.proofs.ExampleRuns.{sum_overflows, difference_overflows, sign_overflows, quotient_overflows, remainder_overflows, divides_by_zero, remainder_by_zero, truncates_toward_zero, remainder_has_the_sign, left_comes_first, index_comes_first, negative_index, picks_one_side, copies_a_struct, switch_takes_a_case, switch_falls_to_default, variable_out_of_range, region_out_of_range, no_state_is_active, items_past_the_length, output_out_of_range, cut_before_an_output, ends_with_a_fault, no_such_fault, called_after_stop, runs_on}
use Rattle.og_csubset.proofs.run_examples.single_statements_compute.Goals as goal

pub returns-clause-sum_overflows : goal.returns-clause-sum_overflows
returns-clause-sum_overflows c = sum_overflows

pub returns-clause-difference_overflows : goal.returns-clause-difference_overflows
returns-clause-difference_overflows c = difference_overflows

pub returns-clause-sign_overflows : goal.returns-clause-sign_overflows
returns-clause-sign_overflows c = sign_overflows

pub returns-clause-quotient_overflows : goal.returns-clause-quotient_overflows
returns-clause-quotient_overflows c = quotient_overflows

pub returns-clause-remainder_overflows : goal.returns-clause-remainder_overflows
returns-clause-remainder_overflows c = remainder_overflows

pub returns-clause-divides_by_zero : goal.returns-clause-divides_by_zero
returns-clause-divides_by_zero c = divides_by_zero

pub returns-clause-remainder_by_zero : goal.returns-clause-remainder_by_zero
returns-clause-remainder_by_zero c = remainder_by_zero

pub returns-clause-truncates_toward_zero : goal.returns-clause-truncates_toward_zero
returns-clause-truncates_toward_zero c = truncates_toward_zero

pub returns-clause-remainder_has_the_sign : goal.returns-clause-remainder_has_the_sign
returns-clause-remainder_has_the_sign c = remainder_has_the_sign

pub returns-clause-left_comes_first : goal.returns-clause-left_comes_first
returns-clause-left_comes_first c = left_comes_first

pub returns-clause-index_comes_first : goal.returns-clause-index_comes_first
returns-clause-index_comes_first c = index_comes_first

pub returns-clause-negative_index : goal.returns-clause-negative_index
returns-clause-negative_index c = negative_index

pub returns-clause-picks_one_side : goal.returns-clause-picks_one_side
returns-clause-picks_one_side c = picks_one_side

pub returns-clause-copies_a_struct : goal.returns-clause-copies_a_struct
returns-clause-copies_a_struct c = copies_a_struct

pub returns-clause-switch_takes_a_case : goal.returns-clause-switch_takes_a_case
returns-clause-switch_takes_a_case c = switch_takes_a_case

pub returns-clause-switch_falls_to_default : goal.returns-clause-switch_falls_to_default
returns-clause-switch_falls_to_default c = switch_falls_to_default

pub returns-clause-variable_out_of_range : goal.returns-clause-variable_out_of_range
returns-clause-variable_out_of_range c = variable_out_of_range

pub returns-clause-region_out_of_range : goal.returns-clause-region_out_of_range
returns-clause-region_out_of_range c = region_out_of_range

pub returns-clause-no_state_is_active : goal.returns-clause-no_state_is_active
returns-clause-no_state_is_active c = no_state_is_active

pub returns-clause-items_past_the_length : goal.returns-clause-items_past_the_length
returns-clause-items_past_the_length c = items_past_the_length

pub returns-clause-output_out_of_range : goal.returns-clause-output_out_of_range
returns-clause-output_out_of_range c = output_out_of_range

pub returns-clause-cut_before_an_output : goal.returns-clause-cut_before_an_output
returns-clause-cut_before_an_output c = cut_before_an_output

pub returns-clause-ends_with_a_fault : goal.returns-clause-ends_with_a_fault
returns-clause-ends_with_a_fault c = ends_with_a_fault

pub returns-clause-no_such_fault : goal.returns-clause-no_such_fault
returns-clause-no_such_fault c = no_such_fault

pub returns-clause-called_after_stop : goal.returns-clause-called_after_stop
returns-clause-called_after_stop c = called_after_stop

pub returns-clause-runs_on : goal.returns-clause-runs_on
returns-clause-runs_on c = runs_on
