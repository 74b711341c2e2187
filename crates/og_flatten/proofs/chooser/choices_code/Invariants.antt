use Rattle.std.proofs.Common.{◌++◌}
use Rattle.og_flatten.specs.FlatCode.{choices_code}
use Rattle.og_names.proofs.Loops.{Left}
use Rattle.og_flatten.proofs.chooser.choices_code.Given as goal

abbrev pub invariant-loop-state : goal.invariant-loop-state
invariant-loop-state l = Left (λ ys. l.code ++ choices_code l.control l.signal ys) l.states l.state-index (choices_code l.control l.signal l.states)
