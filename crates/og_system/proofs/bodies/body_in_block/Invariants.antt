use Rattle.og_system.specs.Bodies.{bodies_of_block_part}
use Rattle.og_system.specs.Lent.{read_home}
use Rattle.og_system.proofs.Foremost.{Searching}
use Rattle.og_system.proofs.bodies.body_in_block.Given as goal

abbrev pub invariant-loop-part : goal.invariant-loop-part
invariant-loop-part l = Searching (bodies_of_block_part (read_home l.home)) l.parts l.part-index
