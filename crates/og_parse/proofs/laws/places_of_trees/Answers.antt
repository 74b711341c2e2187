use Rattle.og_parse.proofs.PlacesWorked.{comment_behind_name, keyword_alone, operator_first, two_selectors, two_components, two_variables, decision_in_step, external_procedure, input_and_save, state_in_partition, route_from_outside, counted_reference, two_units}
use Rattle.og_parse.proofs.laws.places_of_trees.Goals as goal

pub returns-clause-names : goal.returns-clause-names
returns-clause-names c = (comment_behind_name, keyword_alone)

pub returns-clause-expressions : goal.returns-clause-expressions
returns-clause-expressions c = (operator_first, two_selectors, two_components)

pub returns-clause-bodies : goal.returns-clause-bodies
returns-clause-bodies c = (two_variables, decision_in_step, external_procedure)

pub returns-clause-states : goal.returns-clause-states
returns-clause-states c = (input_and_save, state_in_partition)

pub returns-clause-systems : goal.returns-clause-systems
returns-clause-systems c = (route_from_outside, counted_reference, two_units)
