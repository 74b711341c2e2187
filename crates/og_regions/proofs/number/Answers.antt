use Rattle.std.proofs.Common.{◌∙◌}
use Rattle.og_model.specs.Regions.{insides_of}
use Rattle.og_regions.proofs.Placing.{leaves_gathered, regions_gathered, process_followed}
use Rattle.og_regions.proofs.number.Goals as goal

pub returns : goal.returns
returns c =
    let insides = insides_of c.args.model.now.root in
    process_followed c.args.model.now.root c.new-path.result c.scope_leaves.new.leaves c.new-all.result c.push.new.self c.scope_regions.new.regions c.append.new.self
    c.new-path.ensures
    (leaves_gathered c.as_slice.result.now insides c.new-leaves.result c.scope_leaves.new.leaves (c.as_slice.ensures ∙ c.new-path.ensures) c.new-leaves.ensures c.in_ok-scope_leaves.ensures)
    (regions_gathered c.as_slice-2.result.now insides c.new-list.result c.scope_regions.new.regions (c.as_slice-2.ensures ∙ c.new-path.ensures) c.new-list.ensures c.in_ok-scope_regions.ensures)
    c.new-all.ensures c.in_ok-push.ensures.ok c.in_ok-append.ensures
