use Rattle.std.proofs.Common.{◌≡◌, ◌++◌, map, take}
use Rattle.og_front.specs.ModelOf.{input_body}
use Rattle.og_front.proofs.build.add_bodies_of.Given as goal

abbrev pub invariant-loop-input : goal.invariant-loop-input
invariant-loop-input l = l.bodies ≡ l.initial.bodies ++ map (input_body l.tables) (take l.input-index l.inputs)
