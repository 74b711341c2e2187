use Rattle.og_parse.proofs.Worked.{product_in_sum, sum_to_the_left, and_in_or, sign_in_product, keyword_as_field, choice_of_choice, without_items, two_items, negative_component, labelled_task, decision_with_else, hyphened_module}
use Rattle.og_parse.proofs.laws.examples.Goals as goal

pub returns-clause-operators : goal.returns-clause-operators
returns-clause-operators c = (product_in_sum, sum_to_the_left, and_in_or, sign_in_product)

pub returns-clause-names : goal.returns-clause-names
returns-clause-names c = (keyword_as_field, choice_of_choice, hyphened_module)

pub returns-clause-braces : goal.returns-clause-braces
returns-clause-braces c = (without_items, two_items, negative_component)

pub returns-clause-steps : goal.returns-clause-steps
returns-clause-steps c = (labelled_task, decision_with_else)
