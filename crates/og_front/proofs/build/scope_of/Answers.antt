use Rattle.std.proofs.Common.{List, [], ◌∷◌, ◌++◌, None, ap, ◌∙◌}
use Rattle.og_model.specs.declared.Start.{Start}
use Rattle.og_front.proofs.Building.{scope_made}
use Rattle.og_front.proofs.build.scope_of.Goals as goal

pub returns : goal.returns
returns c =
    scope_made c.args.tables.now c.args.system.now c.args.names.now c.in_ok-states.states c.push.new.self c.in_ok-bodies.bodies c.requires.tables c.requires.names c.in_ok-states.ensures
    (c.in_ok-push.ensures.ok ∙ ap (λ (ss : List Start). ss ++ record { entry = None; body = 0 } ∷ []) c.new-starts.ensures) c.in_ok-bodies.ensures
