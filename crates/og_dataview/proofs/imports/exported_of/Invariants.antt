use Rattle.og_dataview.proofs.Exports.{Exporting}
use Rattle.og_dataview.proofs.imports.exported_of.Given as goal

abbrev pub invariant-loop-module : goal.invariant-loop-module
invariant-loop-module l = Exporting l.exported l.modules l.module-index
