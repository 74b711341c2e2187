use Rattle.std.proofs.Common.{◌++◌}
use Rattle.og_flatten.specs.FlatCode.{states_of, choices_labels}
use Rattle.og_names.proofs.Loops.{Left}
use Rattle.og_flatten.proofs.chooser.choices_labels.Given as goal

abbrev pub invariant-loop-state : goal.invariant-loop-state
invariant-loop-state l =
    Left (λ ys. l.labels ++ choices_labels l.model l.signal ys) (states_of l.model) l.state-index (choices_labels l.model l.signal (states_of l.model))
