use Rattle.std.proofs.Common.{◌≡◌, take}
use Rattle.og_model.proofs.copy.copy_arguments.Given as goal

abbrev pub invariant-loop-argument : goal.invariant-loop-argument
invariant-loop-argument l = l.copied ≡ take l.argument-index l.arguments
