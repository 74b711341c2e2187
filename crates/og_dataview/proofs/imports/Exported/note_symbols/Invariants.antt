use Rattle.og_dataview.specs.Exported.{symbol_by}
use Rattle.og_dataview.proofs.Noting.{Noted}
use Rattle.og_dataview.proofs.imports.Exported.note_symbols.Given as goal

abbrev pub invariant-loop-symbol : goal.invariant-loop-symbol
invariant-loop-symbol l = Noted (symbol_by l.self l.of) l.symbols l.symbol-index l.first l.initial.first
