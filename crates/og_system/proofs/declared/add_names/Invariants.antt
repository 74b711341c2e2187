use Rattle.og_system.specs.Tables.{with_names}
use Rattle.og_names.proofs.Loops.{Left}
use Rattle.og_system.proofs.declared.add_names.Given as goal

abbrev pub invariant-loop-name : goal.invariant-loop-name
invariant-loop-name l =
    Left (with_names l.table) l.names l.name-index (with_names l.initial.table l.names)
