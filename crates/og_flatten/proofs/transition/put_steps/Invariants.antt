use Rattle.std.proofs.Common.{◌≡◌, ◌++◌, take, map}
use Rattle.og_flatten.specs.FlatCode.{step_at}
use Rattle.og_flatten.proofs.transition.put_steps.Given as goal

abbrev pub invariant-loop-step : goal.invariant-loop-step
invariant-loop-step l = l.code ≡ l.initial.code ++ map (step_at l.end) (take l.step-index l.steps)
