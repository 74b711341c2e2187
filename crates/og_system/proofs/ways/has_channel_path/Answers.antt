use Rattle.std.proofs.Common.{ap, ◌∙◌}
use Rattle.std.specs.List.{list_any}
use Rattle.og_system.specs.Ways.{is_named, paths_of_system_part}
use Rattle.og_system.proofs.Along.{any_kept_each}
use Rattle.og_system.proofs.ways.has_channel_path.Goals as goal

pub returns : goal.returns
returns c =
    c.has_any_path.ensures ∙ ap (λ parts. list_any (λ part. list_any (is_named c.args.name.now) (paths_of_system_part part)) parts) c.as_slice.ensures
    ∙ any_kept_each (is_named c.args.name.now) paths_of_system_part c.args.system.now.parts
