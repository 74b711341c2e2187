use Rattle.og_flatten.specs.FlatCode.{with_handlers}
use Rattle.og_names.proofs.Loops.{Left}
use Rattle.og_flatten.proofs.labels.set_handler_labels.Given as goal

abbrev pub invariant-loop-handler : goal.invariant-loop-handler
invariant-loop-handler l =
    Left (λ ys. with_handlers l.model l.state ys l.labels) l.state.handlers l.handler-index (with_handlers l.model l.state l.state.handlers l.initial.labels)
