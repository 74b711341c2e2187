use Rattle.std.proofs.Common.{ap, ◌∙◌}
use Rattle.std.specs.List.{list_any}
use Rattle.og_system.specs.Scopes.{is_among}
use Rattle.og_system.specs.Bodies.{references_of_block_part}
use Rattle.og_system.proofs.Foremost.{among_each}
use Rattle.og_system.proofs.bodies.refers.Goals as goal

pub returns : goal.returns
returns c =
    c.has_reference_to.ensures
    ∙ ap (λ parts. list_any (λ part. is_among (references_of_block_part part) c.args.process.now.name) parts) c.as_slice.ensures
    ∙ among_each references_of_block_part c.args.block.now.parts c.args.process.now.name
