use Rattle.std.proofs.Common.{◌+◌, ◌++◌}
use Rattle.og_csubset.specs.Interface.{parameters_from}
use Rattle.og_flatten.specs.Slots.{slots_of}
use Rattle.og_names.proofs.Loops.{Left}
use Rattle.og_flatten.proofs.slots.put_parameters.Given as goal

abbrev pub invariant-loop-number : goal.invariant-loop-number
invariant-loop-number l =
    Left (λ ys. l.slots ++ slots_of (parameters_from (l.number + 1) l.prefix ys)) l.sorts l.number (l.initial.slots ++ slots_of (parameters_from 1 l.prefix l.sorts))
