use Rattle.std.proofs.Common.{◌++◌}
use Rattle.og_flatten.specs.FlatCode.{body_cases}
use Rattle.og_names.proofs.Loops.{Left}
use Rattle.og_flatten.proofs.transition.choice_cases.Given as goal

abbrev pub invariant-loop-number : goal.invariant-loop-number
invariant-loop-number l =
    Left (λ ys. l.cases ++ body_cases l.number l.place ys) l.bodies l.number (body_cases 0 1 l.bodies)
