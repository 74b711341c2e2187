use Rattle.og_flatten.specs.FlatCode.{states_of, with_states, body_labels}
use Rattle.og_names.proofs.Loops.{Left}
use Rattle.og_flatten.proofs.labels.body_labels.Given as goal

abbrev pub invariant-loop-state : goal.invariant-loop-state
invariant-loop-state l =
    Left (λ ys. with_states l.model ys l.labels) (states_of l.model) l.state-index (body_labels l.model)
