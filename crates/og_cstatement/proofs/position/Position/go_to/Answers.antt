use Rattle.og_cstatement.proofs.Fallen.{falls_here}
use Rattle.og_cstatement.proofs.position.Position.go_to.Goals as goal

pub invariant_of-self : goal.invariant_of-self
invariant_of-self c = record {
  room = c.args.self.now.room;
  falling = falls_here c.args.self.now.functions c.args.self.now.standing c.args.self.now.callers.items c.args.place c.requires c.args.self.now.falling;
}
