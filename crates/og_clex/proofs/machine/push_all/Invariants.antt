use Rattle.std.proofs.Common.{◌≡◌, ◌++◌}
use Rattle.og_clex.proofs.machine.push_all.Given as goal

abbrev pub invariant-loop-symbol : goal.invariant-loop-symbol
invariant-loop-symbol l = l.stack.items ≡ l.initial.stack.items ++ l.yielded
