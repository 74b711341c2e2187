use Rattle.std.proofs.Common.{◌≡◌, ◌++◌, take}
use Rattle.std.specs.List.{flat_map}
use Rattle.og_cprint.specs.Printed.{step_bytes}
use Rattle.og_cprint.proofs.expression.+printing.Given as goal

abbrev pub invariant-put_steps-loop-step : goal.invariant-put_steps-loop-step
invariant-put_steps-loop-step l =
    l.out.items ≡ l.initial.out.items ++ flat_map step_bytes (take l.step-index l.steps)
