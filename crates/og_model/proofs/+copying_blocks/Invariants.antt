use Rattle.std.proofs.Common.{◌≡◌, take}
use Rattle.og_model.proofs.+copying_blocks.Given as goal

abbrev pub invariant-copy::copy_steps-loop-step : goal.invariant-copy::copy_steps-loop-step
invariant-copy::copy_steps-loop-step l = l.copied ≡ take l.step-index l.steps

abbrev pub invariant-copy::copy_branches-loop-branch : goal.invariant-copy::copy_branches-loop-branch
invariant-copy::copy_branches-loop-branch l = l.copied ≡ take l.branch-index l.branches
