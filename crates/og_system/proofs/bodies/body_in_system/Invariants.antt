use Rattle.og_system.specs.Bodies.{bodies_of_system_part}
use Rattle.og_system.proofs.Foremost.{Searching}
use Rattle.og_system.proofs.bodies.body_in_system.Given as goal

abbrev pub invariant-loop-part : goal.invariant-loop-part
invariant-loop-part l = Searching (bodies_of_system_part l.system) l.parts l.part-index
