use Rattle.std.proofs.Common.{◌≡◌, take, map}
use Rattle.og_cemit.specs.Emitted.{global_of}
use Rattle.og_cemit.proofs.globals_of.Given as goal

abbrev pub invariant-loop-slot : goal.invariant-loop-slot
invariant-loop-slot l = l.globals ≡ map (global_of l.prefix l.model.types) (take l.slot-index l.ir.slots)
