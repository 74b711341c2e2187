use Rattle.og_system.specs.Scopes.{names_of_system_part}
use Rattle.og_outline.proofs.Pieces.{Pieces}
use Rattle.og_outline.proofs.signals.add_names_of_system.Given as goal

abbrev pub invariant-loop-part : goal.invariant-loop-part
invariant-loop-part l = Pieces names_of_system_part l.parts l.part-index l.names l.initial.names
