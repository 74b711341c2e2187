use Rattle.std.proofs.Common.{slice_get, ap, ◌∙◌}
use Rattle.og_dataview.specs.Following.{own_number}
use Rattle.og_dataview.proofs.scope.Scope.number_by.Goals as goal

pub returns : goal.returns
returns c = c.own_number.ensures ∙ ap (λ q. own_number c.args.self.now.flat (slice_get c.args.self.now.flat.constants q)) (c.next_in.ensures ∙ c.requires.each c.args.place)
