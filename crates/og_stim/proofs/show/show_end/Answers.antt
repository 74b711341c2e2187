use Rattle.std.proofs.Common.{◌≡◌, ◌++◌, subst}
use Rattle.std.specs.Prelude.{OnOk}
use Rattle.og_stim.proofs.Ending.{rest_is}
use Rattle.og_stim.proofs.show.show_end.Goals as goal

pub returns-in-Rest : goal.returns-in-Rest
returns-in-Rest c =
    subst (λ bytes. OnOk c.put_rest.result (c.put_rest.new.out.items ≡ c.args.out.now.items ++ bytes))
    (rest_is c.args.model.now c.args.files.now c.args.regions.now.list c.args.end.now c.in-Rest.leaves c.in-Rest.values c.in-Rest.timers c.in-Rest.is)
    c.put_rest.ensures
