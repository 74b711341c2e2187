use Rattle.std.proofs.Common.{ap, ◌∙◌}
use Rattle.std.specs.List.{flat_map}
use Rattle.og_base.specs.Order.{first_from}
use Rattle.og_system.specs.Tables.{system_part_by}
use Rattle.og_system.proofs.violations.note_system.Goals as goal

pub returns : goal.returns
returns c =
    c.in_ok-note_system_parts.ensures
    ∙ ap (λ parts. first_from c.args.first.now (flat_map (system_part_by c.args.around.now c.in_ok-tables.tables) parts)) c.as_slice.ensures
    ∙ ap (λ t. first_from c.args.first.now (flat_map (system_part_by c.args.around.now t) c.args.system.now.parts)) c.in_ok-tables.ensures
