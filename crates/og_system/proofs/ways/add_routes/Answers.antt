use Rattle.og_system.specs.Ways.{paths_of_block_part}
use Rattle.og_system.proofs.Along.{passing_more}
use Rattle.og_system.proofs.ways.add_routes.Goals as goal

pub loop-part-preserved : goal.loop-part-preserved
loop-part-preserved c =
    passing_more c.args.name.now paths_of_block_part c.args.parts.now c.loop-part.part-index c.part-item.result c.loop-part.tables c.add_route.new.tables c.args.tables.now
    c.loop-part-test.true c.part-item.is c.in_ok-add_route.ensures c.loop-part.invariant
