use Rattle.og_system.specs.Bodies.{bodies_of_system_part}
use Rattle.og_system.specs.Lent.{read_body}
use Rattle.og_system.proofs.Foremost.{searching_stop}
use Rattle.og_system.proofs.bodies.body_in_system.Goals as goal

pub returns-in-Some : goal.returns-in-Some
returns-in-Some c =
    searching_stop (bodies_of_system_part c.args.system.now) c.args.parts.now c.loop-part.part-index c.part-item.result (read_body c.in-Some.body)
    c.loop-part-test.true c.part-item.is c.in-Some.ensures c.loop-part.invariant
