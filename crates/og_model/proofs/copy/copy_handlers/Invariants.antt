use Rattle.std.proofs.Common.{◌≡◌, take}
use Rattle.og_model.proofs.copy.copy_handlers.Given as goal

abbrev pub invariant-loop-handler : goal.invariant-loop-handler
invariant-loop-handler l = l.copied ≡ take l.handler-index l.handlers
