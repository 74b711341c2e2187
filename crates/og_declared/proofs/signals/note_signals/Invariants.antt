use Rattle.std.proofs.Common.{[]}
use Rattle.og_declared.specs.Spaces.{signals_of_unit}
use Rattle.og_declared.proofs.Spacing.{Spacing}
use Rattle.og_declared.proofs.signals.note_signals.Given as goal

abbrev pub invariant-loop-unit : goal.invariant-loop-unit
invariant-loop-unit l = Spacing signals_of_unit l.units l.unit-index l.table [] l.first l.initial.first
