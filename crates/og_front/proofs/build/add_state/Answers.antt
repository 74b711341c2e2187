use Rattle.std.proofs.Common.{◌≡◌, true, false, sym, ◌∙◌}
use Rattle.og_front.specs.Rules.{key, is_in}
use Rattle.og_front.proofs.Building.{state_there, state_new}
use Rattle.og_front.proofs.States.{known_in}
use Rattle.og_front.proofs.build.add_state.Goals as goal

pub returns-then-is_in : goal.returns-then-is_in
returns-then-is_in c =
    let there : is_in c.args.seen.now (key c.args.name.now) ≡ true = sym c.is_in.ensures ∙ c.if-is_in.true in
    record {
      seen = sym (known_in c.args.seen.now (key c.args.name.now) there);
      states = state_there c.args.names.now c.args.seen.now c.args.name.now c.args.states.now.items there;
    }

pub returns-clause-states : goal.returns-clause-states
returns-clause-states c =
    let new : is_in c.args.seen.now (key c.args.name.now) ≡ false = sym c.is_in.ensures ∙ c.if-is_in.false in
    state_new c.args.names.now c.args.seen.now c.args.name.now c.args.states.now.items c.push.new.self.items c.bare_state.result new c.bare_state.ensures c.in_ok-push.ensures.items
