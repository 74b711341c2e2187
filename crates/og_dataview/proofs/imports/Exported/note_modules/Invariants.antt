use Rattle.og_dataview.specs.Exported.{module_by}
use Rattle.og_dataview.proofs.Noting.{Noted}
use Rattle.og_dataview.proofs.imports.Exported.note_modules.Given as goal

abbrev pub invariant-loop-module : goal.invariant-loop-module
invariant-loop-module l = Noted (module_by l.self) l.modules l.module-index l.first l.initial.first
