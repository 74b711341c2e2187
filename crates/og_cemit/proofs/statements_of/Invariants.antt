use Rattle.std.proofs.Common.{◌≡◌, take}
use Rattle.og_cemit.specs.Emitted.{statements_from}
use Rattle.og_cemit.proofs.statements_of.Given as goal

abbrev pub invariant-loop-place : goal.invariant-loop-place
invariant-loop-place l = l.body ≡ statements_from l.ir l.model l.function l.marks 0 (take l.place l.code)
