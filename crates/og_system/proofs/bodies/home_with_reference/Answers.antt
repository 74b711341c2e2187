use Rattle.std.proofs.Common.{ap, ◌∙◌}
use Rattle.std.specs.List.{filter}
use Rattle.og_system.specs.Bodies.{homes_of_unit, refers, foremost}
use Rattle.og_system.specs.Lent.{read_home}
use Rattle.og_system.proofs.Foremost.{searching_stop, searching_all, filtered_each}
use Rattle.og_system.proofs.bodies.home_with_reference.Goals as goal

pub returns-in-Some : goal.returns-in-Some
returns-in-Some c =
    searching_stop (λ one. filter (refers c.args.process.now) (homes_of_unit one)) c.args.units.now c.loop-unit.unit-index c.unit-item.result (read_home c.in-Some.home)
    c.loop-unit-test.true c.unit-item.is c.in-Some.ensures c.loop-unit.invariant
    ∙ ap foremost (filtered_each (refers c.args.process.now) homes_of_unit c.args.units.now)

pub returns : goal.returns
returns c =
    searching_all (λ one. filter (refers c.args.process.now) (homes_of_unit one)) c.args.units.now c.loop-unit.unit-index c.loop-unit-test.false c.loop-unit.invariant
    ∙ ap foremost (filtered_each (refers c.args.process.now) homes_of_unit c.args.units.now)
