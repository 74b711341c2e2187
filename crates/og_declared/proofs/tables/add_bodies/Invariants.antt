use Rattle.og_system.specs.Scopes.{processes_of_unit}
use Rattle.og_system.proofs.Adding.{Adding}
use Rattle.og_declared.proofs.tables.add_bodies.Given as goal

abbrev pub invariant-loop-unit : goal.invariant-loop-unit
invariant-loop-unit l = Adding processes_of_unit l.units l.unit-index l.table l.initial.table
