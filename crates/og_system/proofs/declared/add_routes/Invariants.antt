use Rattle.og_system.specs.Scopes.{routes_of_block_part}
use Rattle.og_system.proofs.Adding.{Adding}
use Rattle.og_system.proofs.declared.add_routes.Given as goal

abbrev pub invariant-loop-part : goal.invariant-loop-part
invariant-loop-part l = Adding routes_of_block_part l.parts l.part-index l.table l.initial.table
