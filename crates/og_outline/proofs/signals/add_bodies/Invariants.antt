use Rattle.og_system.specs.Scopes.{processes_of_unit}
use Rattle.og_outline.proofs.Pieces.{Pieces}
use Rattle.og_outline.proofs.signals.add_bodies.Given as goal

abbrev pub invariant-loop-unit : goal.invariant-loop-unit
invariant-loop-unit l = Pieces processes_of_unit l.units l.unit-index l.names l.initial.names
