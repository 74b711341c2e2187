use Rattle.og_csubset.proofs.FlatExampleRuns.{numbers_are_unbounded, numbers_of_64_bits, index_is_outside, divisor_is_zero, copies_items, calls_twice, cut_in_a_call, not_yet_shown, shown_by_the_sixth, table_takes_a_case, table_takes_the_last, counts_and_leaves_its_type, counting_is_fair, sum_of_forty_nests}
use Rattle.og_csubset.proofs.flat_examples.flat_code_runs.Goals as goal

pub returns-clause-numbers_are_unbounded : goal.returns-clause-numbers_are_unbounded
returns-clause-numbers_are_unbounded c = numbers_are_unbounded

pub returns-clause-numbers_of_64_bits : goal.returns-clause-numbers_of_64_bits
returns-clause-numbers_of_64_bits c = numbers_of_64_bits

pub returns-clause-index_is_outside : goal.returns-clause-index_is_outside
returns-clause-index_is_outside c = index_is_outside

pub returns-clause-divisor_is_zero : goal.returns-clause-divisor_is_zero
returns-clause-divisor_is_zero c = divisor_is_zero

pub returns-clause-copies_items : goal.returns-clause-copies_items
returns-clause-copies_items c = copies_items

pub returns-clause-calls_twice : goal.returns-clause-calls_twice
returns-clause-calls_twice c = calls_twice

pub returns-clause-cut_in_a_call : goal.returns-clause-cut_in_a_call
returns-clause-cut_in_a_call c = cut_in_a_call

pub returns-clause-not_yet_shown : goal.returns-clause-not_yet_shown
returns-clause-not_yet_shown c = not_yet_shown

pub returns-clause-shown_by_the_sixth : goal.returns-clause-shown_by_the_sixth
returns-clause-shown_by_the_sixth c = shown_by_the_sixth

pub returns-clause-table_takes_a_case : goal.returns-clause-table_takes_a_case
returns-clause-table_takes_a_case c = table_takes_a_case

pub returns-clause-table_takes_the_last : goal.returns-clause-table_takes_the_last
returns-clause-table_takes_the_last c = table_takes_the_last

pub returns-clause-counts_and_leaves_its_type : goal.returns-clause-counts_and_leaves_its_type
returns-clause-counts_and_leaves_its_type c = counts_and_leaves_its_type

pub returns-clause-counting_is_fair : goal.returns-clause-counting_is_fair
returns-clause-counting_is_fair c = counting_is_fair

pub returns-clause-sum_of_forty_nests : goal.returns-clause-sum_of_forty_nests
returns-clause-sum_of_forty_nests c = sum_of_forty_nests
