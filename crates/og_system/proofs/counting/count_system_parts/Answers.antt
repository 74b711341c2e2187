use Rattle.og_system.specs.Bodies.{bodies_of_system_part}
use Rattle.og_system.proofs.Counted.{counting_more}
use Rattle.og_system.proofs.counting.count_system_parts.Goals as goal

pub loop-part-preserved : goal.loop-part-preserved
loop-part-preserved c =
    counting_more (bodies_of_system_part c.args.system.now) c.args.parts.now c.loop-part.part-index c.part-item.result c.loop-part.count c.count_system_part.new.count c.args.count.now
    c.loop-part-test.true c.part-item.is (cc) c.loop-part.invariant
