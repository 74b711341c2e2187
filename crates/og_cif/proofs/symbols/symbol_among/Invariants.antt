use Rattle.std.proofs.Common.{◌≡◌, drop, map}
use Rattle.std.specs.Char.{to_ascii_uppercase}
use Rattle.og_cif.specs.Scans.{symbol_in}
use Rattle.og_cif.proofs.symbols.symbol_among.Given as goal

abbrev pub invariant-loop-symbol : goal.invariant-loop-symbol
invariant-loop-symbol l = symbol_in (drop l.symbol-index l.symbols) (map to_ascii_uppercase l.word) ≡ symbol_in l.symbols (map to_ascii_uppercase l.word)
