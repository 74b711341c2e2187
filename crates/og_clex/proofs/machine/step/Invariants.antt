use Rattle.std.proofs.Common.{◌≡◌, length}
use Rattle.og_csubset.specs.Recognizer.{step}
use Rattle.og_clex.specs.Views.{token_view}
use Rattle.og_clex.specs.Moves.{coming}
use Rattle.og_clex.proofs.machine.step.Given as goal

abbrev pub invariant-loop-symbol : goal.invariant-loop-symbol
invariant-loop-symbol l = step (coming l.stack.items) (token_view l.token) ≡ step (coming l.initial.stack.items) (token_view l.token)

abbrev pub decreases-loop-symbol : goal.decreases-loop-symbol
decreases-loop-symbol l = length l.stack.items
