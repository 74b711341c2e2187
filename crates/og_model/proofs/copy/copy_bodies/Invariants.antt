use Rattle.std.proofs.Common.{◌≡◌, take}
use Rattle.og_model.proofs.copy.copy_bodies.Given as goal

abbrev pub invariant-loop-body : goal.invariant-loop-body
invariant-loop-body l = l.copied ≡ take l.body-index l.bodies
