use Rattle.og_system.specs.Scopes.{names_of_block_part}
use Rattle.og_system.proofs.Adding.{Adding}
use Rattle.og_declared.proofs.tables.add_names_of_block.Given as goal

abbrev pub invariant-loop-part : goal.invariant-loop-part
invariant-loop-part l = Adding names_of_block_part l.parts l.part-index l.table l.initial.table
