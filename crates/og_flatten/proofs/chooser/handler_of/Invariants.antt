use Rattle.og_flatten.specs.FlatCode.{handler_in}
use Rattle.og_names.proofs.Loops.{Left}
use Rattle.og_flatten.proofs.chooser.handler_of.Given as goal

abbrev pub invariant-loop-handler : goal.invariant-loop-handler
invariant-loop-handler l = Left (handler_in l.signal) l.state.handlers l.handler-index (handler_in l.signal l.state.handlers)
