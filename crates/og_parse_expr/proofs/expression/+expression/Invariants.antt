-- A part is read with less fuel where it stands further inside, and else by fewer of the parts that it may begin with.
use Rattle.std.proofs.Common.{ℕ, ◌+◌, ◌-◌, ◌*◌}
use Rattle.og_reading.specs.Reading.{rest_of, onto, pushed, next, more_of}
use Rattle.og_reading.proofs.Turns.{SoFar}
use Rattle.og_parse_expr.specs.declared.operator.Level.{Level}
use Rattle.og_parse_expr.specs.declared.operator.Level.TheVariants.{Product, Sum, Relation, Conjunction, Disjunction}
use Rattle.og_parse_expr.specs.Reading.{inside, step_at, selector_at, item_at, more_component_at}
use Rattle.og_parse_expr.proofs.expression.+expression.Given as goal

abbrev rank_of : Level → ℕ
rank_of Product = 10
rank_of Sum = 15
rank_of Relation = 20
rank_of Conjunction = 25
rank_of Disjunction = 30

abbrev pub decreases-after_first_name_of : goal.decreases-after_first_name_of
decreases-after_first_name_of l = 64 * l.fuel + 42

abbrev pub decreases-after_name_of : goal.decreases-after_name_of
decreases-after_name_of l = 64 * l.fuel + 36

abbrev pub decreases-braces_of : goal.decreases-braces_of
decreases-braces_of l = 64 * l.fuel + 0

abbrev pub decreases-choice_of : goal.decreases-choice_of
decreases-choice_of l = 64 * l.fuel + 1

abbrev pub decreases-component_of : goal.decreases-component_of
decreases-component_of l = 64 * l.fuel + 39

abbrev pub decreases-component_value_of : goal.decreases-component_value_of
decreases-component_value_of l = 64 * l.fuel + 38

abbrev pub decreases-components_of : goal.decreases-components_of
decreases-components_of l = 64 * l.fuel + 41

abbrev pub decreases-expr_of : goal.decreases-expr_of
decreases-expr_of l = 64 * l.fuel + 0

abbrev pub decreases-first_operand_of : goal.decreases-first_operand_of
decreases-first_operand_of l = 64 * l.fuel + 2

abbrev pub decreases-first_value_of : goal.decreases-first_value_of
decreases-first_value_of l = 64 * l.fuel + 1

abbrev pub decreases-index_of : goal.decreases-index_of
decreases-index_of l = 64 * l.fuel + 1

abbrev pub decreases-inside_of : goal.decreases-inside_of
decreases-inside_of l = 64 * l.fuel + 43

abbrev pub decreases-item_of : goal.decreases-item_of
decreases-item_of l = 64 * l.fuel + 38

abbrev pub decreases-items_of : goal.decreases-items_of
decreases-items_of l = 64 * l.fuel + 40

abbrev pub decreases-leading_of : goal.decreases-leading_of
decreases-leading_of l = 64 * l.fuel + 37

abbrev pub decreases-listed_rest_of : goal.decreases-listed_rest_of
decreases-listed_rest_of l = 64 * l.fuel + 36

abbrev pub decreases-more_component_of : goal.decreases-more_component_of
decreases-more_component_of l = 64 * l.fuel + 40

abbrev pub decreases-more_items_of : goal.decreases-more_items_of
decreases-more_items_of l = 64 * l.fuel + 39

abbrev pub decreases-named_of : goal.decreases-named_of
decreases-named_of l = 64 * l.fuel + 35

abbrev pub decreases-operand_of : goal.decreases-operand_of
decreases-operand_of l = 64 * l.fuel + 0

abbrev pub decreases-selector_of : goal.decreases-selector_of
decreases-selector_of l = 64 * l.fuel + 2

abbrev pub decreases-selectors_of : goal.decreases-selectors_of
decreases-selectors_of l = 64 * l.fuel + 3

abbrev pub decreases-tails_of : goal.decreases-tails_of
decreases-tails_of l = 64 * l.fuel + 34

abbrev pub decreases-variable_of : goal.decreases-variable_of
decreases-variable_of l = 64 * l.fuel + 4

abbrev pub decreases-led_of : goal.decreases-led_of
decreases-led_of l = 64 * l.fuel + (rank_of l.level + 4)

abbrev pub decreases-operators_of : goal.decreases-operators_of
decreases-operators_of l = 64 * l.fuel + (rank_of l.level + 3)

abbrev pub decreases-repeated_of : goal.decreases-repeated_of
decreases-repeated_of l = 64 * l.fuel + (rank_of l.level + 2)

abbrev pub decreases-right_of : goal.decreases-right_of
decreases-right_of l = 64 * l.fuel + (rank_of l.level + 0)

abbrev pub decreases-step_of : goal.decreases-step_of
decreases-step_of l = 64 * l.fuel + (rank_of l.level + 1)

abbrev pub invariant-repeated_of-loop : goal.invariant-repeated_of-loop
invariant-repeated_of-loop l =
    SoFar (step_at (inside l.fuel) l.level) l.tree (l.end - l.counter) (rest_of l.rest) (onto (step_at (inside l.fuel) l.level) l.fn.left (rest_of l.from))

abbrev pub invariant-selectors_of-loop : goal.invariant-selectors_of-loop
invariant-selectors_of-loop l = SoFar (pushed (selector_at (inside l.fuel))) l.selectors (l.end - l.counter) (rest_of l.rest) (more_of (selector_at (inside l.fuel)) l.fn.first (rest_of l.from))

abbrev pub invariant-more_items_of-loop : goal.invariant-more_items_of-loop
invariant-more_items_of-loop l = SoFar (pushed (next (item_at (inside l.fuel)))) l.items (l.end - l.counter) (rest_of l.rest) (more_of (next (item_at (inside l.fuel))) l.fn.first (rest_of l.from))

abbrev pub invariant-components_of-loop : goal.invariant-components_of-loop
invariant-components_of-loop l = SoFar (pushed (more_component_at (inside l.fuel))) l.components (l.end - l.counter) (rest_of l.rest) (more_of (more_component_at (inside l.fuel)) l.fn.first (rest_of l.from))
