use Rattle.std.proofs.Common.{ap, ◌∙◌}
use Rattle.std.specs.List.{flat_map}
use Rattle.og_base.specs.Order.{first_from}
use Rattle.og_system.specs.Bodies.{in_block_part}
use Rattle.og_system.specs.Tables.{seen_by_block}
use Rattle.og_system.proofs.violations.note_block.Goals as goal

pub returns : goal.returns
returns c =
    c.note_block_parts.ensures
    ∙ ap (λ parts. first_from c.args.first.now (flat_map (in_block_part (seen_by_block c.args.around.now c.args.system.now c.in_ok-tables.tables)) parts)) c.as_slice.ensures
    ∙ ap (λ t. first_from c.args.first.now (flat_map (in_block_part (seen_by_block c.args.around.now c.args.system.now t)) c.args.block.now.parts)) c.in_ok-tables.ensures
