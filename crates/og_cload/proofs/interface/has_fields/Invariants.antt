use Rattle.std.specs.List.{list_all}
use Rattle.og_cload.specs.Fields.{fields_in, has_field_over}
use Rattle.og_names.proofs.Loops.{Left}
use Rattle.og_cload.proofs.interface.has_fields.Given as goal

abbrev pub invariant-loop-field : goal.invariant-loop-field
invariant-loop-field l = Left (λ ys. list_all (has_field_over l.program l.sorts) (fields_in ys)) l.fields l.field-index (list_all (has_field_over l.program l.sorts) (fields_in l.fields))
