use Rattle.std.proofs.Common.{◌++◌}
use Rattle.og_flatten.specs.FlatCode.{choice_cases}
use Rattle.og_names.proofs.Loops.{Left}
use Rattle.og_flatten.proofs.chooser.choice_cases.Given as goal

abbrev pub invariant-loop-number : goal.invariant-loop-number
invariant-loop-number l =
    Left (λ ys. l.cases ++ choice_cases l.signal l.number l.place ys) l.states l.number (choice_cases l.signal 0 2 l.states)
