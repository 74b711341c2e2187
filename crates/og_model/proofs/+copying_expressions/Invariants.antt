use Rattle.std.proofs.Common.{◌≡◌, take}
use Rattle.og_model.proofs.+copying_expressions.Given as goal

abbrev pub invariant-copy::copy_selectors-loop-selector : goal.invariant-copy::copy_selectors-loop-selector
invariant-copy::copy_selectors-loop-selector l = l.copied ≡ take l.selector-index l.selectors

abbrev pub invariant-copy::copy_expressions-loop-expression : goal.invariant-copy::copy_expressions-loop-expression
invariant-copy::copy_expressions-loop-expression l = l.copied ≡ take l.expression-index l.expressions
