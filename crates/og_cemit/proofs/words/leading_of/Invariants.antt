use Rattle.std.proofs.Common.{◌+◌}
use Rattle.og_cemit.specs.Structs.{leading}
use Rattle.og_names.proofs.Loops.{Left}
use Rattle.og_cemit.proofs.words.leading_of.Given as goal

abbrev pub invariant-loop-place : goal.invariant-loop-place
invariant-loop-place l = Left (λ ys. l.place + leading ys) l.name l.place (leading l.name)
