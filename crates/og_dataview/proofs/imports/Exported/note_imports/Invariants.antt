use Rattle.og_dataview.specs.Exported.{import_by}
use Rattle.og_dataview.proofs.Noting.{Noted}
use Rattle.og_dataview.proofs.imports.Exported.note_imports.Given as goal

abbrev pub invariant-loop-import : goal.invariant-loop-import
invariant-loop-import l = Noted (import_by l.self) l.imports l.import-index l.first l.initial.first
