use Rattle.og_dataview.specs.Exported.{module_by}
use Rattle.og_dataview.proofs.Noting.{noted_more}
use Rattle.og_dataview.proofs.imports.Exported.note_modules.Goals as goal

pub loop-module-preserved : goal.loop-module-preserved
loop-module-preserved c =
    noted_more (module_by c.args.self.now) c.args.modules.now c.loop-module.module-index c.module-item.result c.loop-module.first c.note_module.new.first c.args.first.now
    c.loop-module-test.true c.module-item.is c.in_ok-note_module.ensures c.loop-module.invariant
