use Rattle.og_dataview.specs.Exported.{import_by}
use Rattle.og_dataview.proofs.Noting.{noted_more}
use Rattle.og_dataview.proofs.imports.Exported.note_imports.Goals as goal

pub loop-import-preserved : goal.loop-import-preserved
loop-import-preserved c =
    noted_more (import_by c.args.self.now) c.args.imports.now c.loop-import.import-index c.import-item.result c.loop-import.first c.note_import.new.first c.args.first.now
    c.loop-import-test.true c.import-item.is c.in_ok-note_import.ensures c.loop-import.invariant
