use Rattle.og_csubset.proofs.TextExamples.{nesting_counts_assignment, nesting_counts_operators, nesting_counts_literal, nesting_counts_target, nesting_counts_both_sides, nesting_counts_selectors_stay, nesting_counts_bracket_ends, nesting_counts_test, nesting_counts_choice, nesting_counts_constants, nesting_counts_whole_text, nesting_counts_at_the_limit, nesting_counts_past_the_limit}
use Rattle.og_csubset.proofs.spelling_laws.nesting_counts.Goals as goal

pub returns-clause-assignment : goal.returns-clause-assignment
returns-clause-assignment c = nesting_counts_assignment

pub returns-clause-operators : goal.returns-clause-operators
returns-clause-operators c = nesting_counts_operators

pub returns-clause-literal : goal.returns-clause-literal
returns-clause-literal c = nesting_counts_literal

pub returns-clause-target : goal.returns-clause-target
returns-clause-target c = nesting_counts_target

pub returns-clause-both_sides : goal.returns-clause-both_sides
returns-clause-both_sides c = nesting_counts_both_sides

pub returns-clause-selectors_stay : goal.returns-clause-selectors_stay
returns-clause-selectors_stay c = nesting_counts_selectors_stay

pub returns-clause-bracket_ends : goal.returns-clause-bracket_ends
returns-clause-bracket_ends c = nesting_counts_bracket_ends

pub returns-clause-test : goal.returns-clause-test
returns-clause-test c = nesting_counts_test

pub returns-clause-choice : goal.returns-clause-choice
returns-clause-choice c = nesting_counts_choice

pub returns-clause-constants : goal.returns-clause-constants
returns-clause-constants c = nesting_counts_constants

pub returns-clause-whole_text : goal.returns-clause-whole_text
returns-clause-whole_text c = nesting_counts_whole_text

pub returns-clause-at_the_limit : goal.returns-clause-at_the_limit
returns-clause-at_the_limit c = nesting_counts_at_the_limit

pub returns-clause-past_the_limit : goal.returns-clause-past_the_limit
returns-clause-past_the_limit c = nesting_counts_past_the_limit
