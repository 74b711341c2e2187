use Rattle.og_declared.specs.Tables.{unit_by}
use Rattle.og_system.proofs.Noticed.{Noted}
use Rattle.og_declared.proofs.sorts.note_sorts.Given as goal

abbrev pub invariant-loop-unit : goal.invariant-loop-unit
invariant-loop-unit l = Noted (unit_by l.outside) l.units l.unit-index l.first l.initial.first
