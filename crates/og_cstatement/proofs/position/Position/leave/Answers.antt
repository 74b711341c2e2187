use Rattle.std.proofs.Common.{◌++◌, ap, ◌∙◌, arith}
use Rattle.std.specs.Option.{option_to_list}
use Rattle.og_cstatement.proofs.Fallen.{falls_back}
use Rattle.og_cstatement.proofs.position.Position.leave.Goals as goal

pub invariant_of-self-in-Some : goal.invariant_of-self-in-Some
invariant_of-self-in-Some c =
    let room = c.args.self.now.room in
    let capacity = c.pop.ensures.capacity in record {
      room = omega (arith, room, capacity);
      falling = falls_back c.args.self.now.functions c.args.self.now.standing c.args.self.now.callers.items c.pop.new.self.items c.in-Some.caller c.requires
          (c.pop.ensures.items ∙ ap (λ o. c.pop.new.self.items ++ option_to_list o) c.in-Some.is) c.args.self.now.falling;
    }
