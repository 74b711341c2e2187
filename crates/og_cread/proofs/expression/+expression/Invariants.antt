use Rattle.std.proofs.Common.{◌+◌, ◌*◌, ◌^◌}
use Rattle.og_cread.proofs.expression.+expression.Given as goal

abbrev pub decreases-number_of : goal.decreases-number_of
decreases-number_of l = l.depth * 2 ^ 70

abbrev pub decreases-number_then : goal.decreases-number_then
decreases-number_then l = l.depth * 2 ^ 70 + 1

abbrev pub decreases-choice_of : goal.decreases-choice_of
decreases-choice_of l = l.depth * 2 ^ 70 + 2

abbrev pub decreases-behind_of : goal.decreases-behind_of
decreases-behind_of l = l.depth * 2 ^ 70 + 3

abbrev pub decreases-bracket_of : goal.decreases-bracket_of
decreases-bracket_of l = l.depth * 2 ^ 70 + 4

abbrev pub decreases-path_of : goal.decreases-path_of
decreases-path_of l = l.depth * 2 ^ 70 + 8 * l.turns + 2

abbrev pub decreases-place_of : goal.decreases-place_of
decreases-place_of l = l.depth * 2 ^ 70 + 8 * l.turns + 3

abbrev pub decreases-operand_of : goal.decreases-operand_of
decreases-operand_of l = l.depth * 2 ^ 70 + 8 * l.turns + 5

abbrev pub decreases-signed_of : goal.decreases-signed_of
decreases-signed_of l = l.depth * 2 ^ 70 + 8 * l.turns + 6

abbrev pub decreases-product_rest : goal.decreases-product_rest
decreases-product_rest l = l.depth * 2 ^ 70 + 8 * l.turns + 7

abbrev pub decreases-product_of : goal.decreases-product_of
decreases-product_of l = l.depth * 2 ^ 70 + 8 * l.turns + 8

abbrev pub decreases-sum_rest : goal.decreases-sum_rest
decreases-sum_rest l = l.depth * 2 ^ 70 + 8 * l.turns + 9
