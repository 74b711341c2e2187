use Rattle.std.proofs.Common.{List, [], ◌∷◌, length, ◌<◌, ◌≤◌, ap, ◌∙◌, arith}
use Rattle.std.proofs.Math.ListN.{set}
use Rattle.og_model.specs.declared.Handler.{Handler}
use Rattle.og_front.proofs.Building.{given_past, given_at}
use Rattle.og_front.proofs.build.add_handler.Goals as goal

pub returns-in_ok-push : goal.returns-in_ok-push
returns-in_ok-push c =
    let lt : c.args.state < length c.args.states.now.items = omega (arith, c.args.states.now.ok.0) in
    ap (λ (hs : List Handler). set c.args.states.now.items c.args.state (record c.index_mut.result.now { handlers = hs })) c.in_ok-push.ensures.ok
    ∙ given_at c.args.state (c.args.handler ∷ []) c.args.states.now.items c.index_mut.result.now lt c.index_mut.ensures.value

pub returns-else-state-len : goal.returns-else-state-len
returns-else-state-len c =
    let le : length c.args.states.now.items ≤ c.args.state = omega (arith, c.args.states.now.ok.0) in
    given_past c.args.state (c.args.handler ∷ []) c.args.states.now.items le
