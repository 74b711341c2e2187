use Rattle.og_system.specs.Tables.{unit_by}
use Rattle.og_system.proofs.Noticed.{Noted}
use Rattle.og_system.proofs.violations.note_units.Given as goal

abbrev pub invariant-loop-unit : goal.invariant-loop-unit
invariant-loop-unit l = Noted (unit_by l.around) l.units l.unit-index l.first l.initial.first
