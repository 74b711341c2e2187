-- What has to be opened so that the reading of a text that is written out computes.
use Rattle.std.specs.Prelude.{⊤}
use Rattle.std.specs.Fmt.{digits}
use Rattle.og_types.proofs.Computing.{values}
use Rattle.og_value.specs.Scans.{digits_at, word_at, name_at, comma_by, past_all, part_by, closed_by, braces_by, colon_by, form_by, form_at, each_by, component_by, components_by, sequence_by, items_by, entries_by, inside_by, named_by, sorted_by, value_at, found_in}

unfoldable pub readings : ⊤
unfolding values digits digits_at word_at name_at comma_by past_all part_by closed_by braces_by colon_by form_by form_at each_by component_by components_by sequence_by items_by entries_by inside_by named_by sorted_by value_at found_in
readings = tt
