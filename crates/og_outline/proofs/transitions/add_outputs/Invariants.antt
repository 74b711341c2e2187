use Rattle.std.proofs.Common.{◌≡◌, ◌++◌, map, take}
use Rattle.og_outline.specs.Outlines.{sent}
use Rattle.og_outline.proofs.transitions.add_outputs.Given as goal

abbrev pub invariant-loop-out : goal.invariant-loop-out
invariant-loop-out l = l.steps ≡ l.initial.steps ++ map sent (take l.out-index l.outs)
