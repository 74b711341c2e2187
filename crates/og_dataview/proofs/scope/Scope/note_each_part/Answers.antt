use Rattle.og_dataview.specs.Violations.{used_by_part}
use Rattle.og_dataview.proofs.Noting.{noted_more}
use Rattle.og_dataview.proofs.scope.Scope.note_each_part.Goals as goal

pub loop-part-preserved : goal.loop-part-preserved
loop-part-preserved c =
    noted_more (used_by_part c.args.self.now.flat) c.args.parts.now c.loop-part.part-index c.part-item.result c.loop-part.first c.note_part.new.first c.args.first.now
    c.loop-part-test.true c.part-item.is c.note_part.ensures c.loop-part.invariant
