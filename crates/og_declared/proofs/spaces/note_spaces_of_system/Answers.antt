use Rattle.std.proofs.Common.{◌∷◌, ap, ◌∙◌}
use Rattle.std.specs.List.{flat_map}
use Rattle.og_base.specs.Order.{first_from}
use Rattle.og_system.specs.Scopes.{channels_of_system_part, blocks_of_system_part, procedures_of_system_part}
use Rattle.og_declared.specs.Spaces.{in_space, spaces_of_part}
use Rattle.og_declared.proofs.Spacing.{system_noted}
use Rattle.og_declared.proofs.spaces.note_spaces_of_system.Goals as goal

pub returns : goal.returns
returns c =
    system_noted c.as_slice-parts.result.now c.args.first.now c.note_in_system.new.first c.note_in_system-2.new.first c.note_in_system-3.new.first c.note_in_blocks.new.first
    c.in_ok-note_in_system.ensures c.in_ok-note_in_system-2.ensures c.in_ok-note_in_system-3.ensures c.in_ok-note_in_blocks.ensures
    ∙ ap (λ parts. first_from c.args.first.now (flat_map in_space (flat_map channels_of_system_part parts ∷ flat_map blocks_of_system_part parts ∷ flat_map procedures_of_system_part parts ∷ flat_map spaces_of_part parts))) c.as_slice-parts.ensures
