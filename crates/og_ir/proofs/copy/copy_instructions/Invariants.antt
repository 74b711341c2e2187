use Rattle.std.proofs.Common.{◌≡◌, take}
use Rattle.og_ir.proofs.copy.copy_instructions.Given as goal

abbrev pub invariant-loop-instruction : goal.invariant-loop-instruction
invariant-loop-instruction l = l.copied ≡ take l.instruction-index l.instructions
