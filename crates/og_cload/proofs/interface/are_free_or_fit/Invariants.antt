use Rattle.std.specs.List.{list_all}
use Rattle.og_cload.specs.Names.{names_in}
use Rattle.og_cload.specs.Fields.{fields_in, free_or_has}
use Rattle.og_names.proofs.Loops.{Left}
use Rattle.og_cload.proofs.interface.are_free_or_fit.Given as goal

abbrev pub invariant-loop-field : goal.invariant-loop-field
invariant-loop-field l = Left (λ ys. list_all (free_or_has l.program l.sorts (names_in l.names)) (fields_in ys)) l.fields l.field-index (list_all (free_or_has l.program l.sorts (names_in l.names)) (fields_in l.fields))
