use Rattle.std.proofs.Common.{ap, ◌∙◌}
use Rattle.std.specs.List.{list_any}
use Rattle.og_system.specs.Scopes.{routes_of_block_part}
use Rattle.og_system.specs.Ways.{has_any}
use Rattle.og_system.proofs.Along.{any_each}
use Rattle.og_system.proofs.ways.has_route.Goals as goal

pub returns : goal.returns
returns c =
    c.is_any_route.ensures ∙ ap (λ parts. list_any (λ part. has_any (routes_of_block_part part)) parts) c.as_slice.ensures
    ∙ any_each routes_of_block_part c.args.block.now.parts
