use Rattle.std.proofs.Common.{◌++◌}
use Rattle.og_flatten.specs.FlatCode.{states_of, entering_labels}
use Rattle.og_names.proofs.Loops.{Left}
use Rattle.og_flatten.proofs.labels.put_entering_labels.Given as goal

abbrev pub invariant-loop-state : goal.invariant-loop-state
invariant-loop-state l =
    Left (λ ys. l.labels ++ entering_labels l.model ys) (states_of l.model) l.state-index (l.initial.labels ++ entering_labels l.model (states_of l.model))
