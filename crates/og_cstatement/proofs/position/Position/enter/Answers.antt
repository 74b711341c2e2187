use Rattle.std.proofs.Common.{arith, rules}
use Rattle.og_cstatement.proofs.Fallen.{falls_next, has_room}
use Rattle.og_cstatement.proofs.Moving.{is_running}
use Rattle.og_cstatement.proofs.position.Position.enter.Goals as goal

pub push_reserved-requires : goal.push_reserved-requires
push_reserved-requires c =
    let room = has_room c.args.self.now.functions _ c.args.self.now.standing c.args.self.now.callers.items (is_running c.args.next c.args.self.now.standing c.requires.next)
    c.args.self.now.falling c.args.self.now.room in
    search rules

pub invariant_of-self : goal.invariant_of-self
invariant_of-self c =
    let room = c.args.self.now.room in
    let capacity = c.push_reserved.ensures.capacity in record {
      room = omega (arith, room, capacity);
      falling = falls_next c.args.self.now.functions c.args.self.now.standing c.args.self.now.callers.items c.push_reserved.new.self.items c.args.next c.args.function c.requires.next
          c.requires.earlier c.push_reserved.ensures.items c.args.self.now.falling;
    }
