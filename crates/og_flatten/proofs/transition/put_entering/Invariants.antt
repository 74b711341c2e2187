use Rattle.std.proofs.Common.{◌++◌}
use Rattle.og_flatten.specs.FlatCode.{entering_code}
use Rattle.og_names.proofs.Loops.{Left}
use Rattle.og_flatten.proofs.transition.put_entering.Given as goal

abbrev pub invariant-loop-number : goal.invariant-loop-number
invariant-loop-number l =
    Left (λ ys. l.code ++ entering_code l.number ys) l.states l.number (l.initial.code ++ entering_code 0 l.states)
