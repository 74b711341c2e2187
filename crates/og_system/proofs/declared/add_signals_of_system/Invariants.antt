use Rattle.og_system.specs.Scopes.{signals_of_system_part}
use Rattle.og_system.proofs.Adding.{Adding}
use Rattle.og_system.proofs.declared.add_signals_of_system.Given as goal

abbrev pub invariant-loop-part : goal.invariant-loop-part
invariant-loop-part l = Adding signals_of_system_part l.parts l.part-index l.table l.initial.table
