use Rattle.og_front.proofs.Building.{bodies_made}
use Rattle.og_front.proofs.build.bodies_of.Goals as goal

pub returns : goal.returns
returns c =
    bodies_made c.args.tables.now c.args.system.now c.new-bodies.result c.push.new.self c.add_bodies.new.bodies c.start_body.result c.as_slice.result.now c.new-bodies.ensures c.start_body.ensures c.in_ok-push.ensures.ok
    c.as_slice.ensures c.in_ok-add_bodies.ensures
