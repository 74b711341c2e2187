use Rattle.std.proofs.Common.{ap, ◌∙◌}
use Rattle.std.specs.List.{filter}
use Rattle.og_system.specs.Bodies.{homes_of_system_part, refers, foremost}
use Rattle.og_system.specs.Lent.{read_home}
use Rattle.og_system.proofs.Foremost.{searching_stop, searching_all, filtered_each}
use Rattle.og_system.proofs.bodies.home_in_system.Goals as goal

pub returns-in-Some : goal.returns-in-Some
returns-in-Some c =
    searching_stop (λ one. filter (refers c.args.process.now) (homes_of_system_part c.args.system.now one)) c.args.parts.now c.loop-part.part-index c.part-item.result (read_home c.in-Some.home)
    c.loop-part-test.true c.part-item.is c.in-Some.ensures c.loop-part.invariant
    ∙ ap foremost (filtered_each (refers c.args.process.now) (homes_of_system_part c.args.system.now) c.args.parts.now)

pub returns : goal.returns
returns c =
    searching_all (λ one. filter (refers c.args.process.now) (homes_of_system_part c.args.system.now one)) c.args.parts.now c.loop-part.part-index c.loop-part-test.false c.loop-part.invariant
    ∙ ap foremost (filtered_each (refers c.args.process.now) (homes_of_system_part c.args.system.now) c.args.parts.now)
