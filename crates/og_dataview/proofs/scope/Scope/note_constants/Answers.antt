use Rattle.og_dataview.specs.Violations.{used_by_constant}
use Rattle.og_dataview.proofs.Noting.{noted_more}
use Rattle.og_dataview.proofs.scope.Scope.note_constants.Goals as goal

pub loop-constant-preserved : goal.loop-constant-preserved
loop-constant-preserved c =
    noted_more (used_by_constant c.args.self.now.flat) c.args.constants.now c.loop-constant.constant-index c.constant-item.result c.loop-constant.first c.note_constant.new.first c.args.first.now
    c.loop-constant-test.true c.constant-item.is c.note_constant.ensures c.loop-constant.invariant
