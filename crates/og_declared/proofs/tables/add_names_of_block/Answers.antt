use Rattle.og_system.specs.Scopes.{names_of_block_part}
use Rattle.og_system.proofs.Adding.{adding_more}
use Rattle.og_declared.proofs.tables.add_names_of_block.Goals as goal

pub loop-part-preserved : goal.loop-part-preserved
loop-part-preserved c =
    adding_more names_of_block_part c.args.parts.now c.loop-part.part-index c.part-item.result c.loop-part.table c.add_names_of_block_part.new.table c.args.table.now
    c.loop-part-test.true c.part-item.is c.in_ok-add_names_of_block_part.ensures c.loop-part.invariant
