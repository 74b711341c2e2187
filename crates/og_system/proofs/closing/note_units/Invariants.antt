use Rattle.og_system.specs.Closing.{in_unit}
use Rattle.og_system.proofs.Noticed.{Noted}
use Rattle.og_system.proofs.closing.note_units.Given as goal

abbrev pub invariant-loop-unit : goal.invariant-loop-unit
invariant-loop-unit l = Noted in_unit l.units l.unit-index l.first l.initial.first
