use Rattle.std.proofs.Common.{◌≡◌}
use Rattle.og_csubset.specs.Recognizer.{may_end}
use Rattle.og_clex.specs.Moves.{coming}
use Rattle.og_clex.proofs.machine.may_end.Given as goal

abbrev pub invariant-loop-symbol : goal.invariant-loop-symbol
invariant-loop-symbol l = may_end (coming l.stack.items) ≡ may_end (coming l.initial.stack.items)

abbrev pub decreases-loop-symbol : goal.decreases-loop-symbol
decreases-loop-symbol l = goal.left-loop-symbol l
