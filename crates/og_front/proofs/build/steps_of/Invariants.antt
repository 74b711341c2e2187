use Rattle.std.proofs.Common.{◌≡◌, map, take}
use Rattle.og_front.specs.ModelOf.{step_of}
use Rattle.og_front.proofs.build.steps_of.Given as goal

abbrev pub invariant-loop-output : goal.invariant-loop-output
invariant-loop-output l = l.steps ≡ map (step_of l.tables) (take l.output-index l.outputs)
