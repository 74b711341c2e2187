use Rattle.og_declared.specs.Sorts.{in_sort}
use Rattle.og_declared.specs.Tables.{is_other}
use Rattle.og_system.proofs.Noticed.{noted_more}
use Rattle.og_declared.proofs.sorts.note_signal.Goals as goal

pub loop-sort-preserved : goal.loop-sort-preserved
loop-sort-preserved c =
    noted_more (in_sort c.args.outside.now.types (is_other c.args.outside.now c.args.system.now c.args.block.now) c.args.signal.now.name) c.as_slice-sorts.result.now c.loop-sort.sort-index c.sort-item.result c.loop-sort.first c.note_sort.new.first c.args.first.now
    c.loop-sort-test.true c.sort-item.is c.in_ok-note_sort.ensures c.loop-sort.invariant
