use Rattle.std.proofs.Common.{◌≡◌, take}
use Rattle.og_ir.proofs.copy.copy_functions.Given as goal

abbrev pub invariant-loop-function : goal.invariant-loop-function
invariant-loop-function l = l.copied ≡ take l.function-index l.functions
