use Rattle.std.proofs.Common.{◌≡◌, take}
use Rattle.og_ir.proofs.+copying.Given as goal

abbrev pub invariant-copy::copy_steps-loop-step : goal.invariant-copy::copy_steps-loop-step
invariant-copy::copy_steps-loop-step l = l.copied ≡ take l.step-index l.steps
