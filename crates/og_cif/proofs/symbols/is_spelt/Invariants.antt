use Rattle.std.proofs.Common.{◌≡◌, length, drop, map}
use Rattle.std.specs.Str.{bytes_eq}
use Rattle.std.specs.Char.{to_ascii_uppercase}
use Rattle.og_cif.proofs.symbols.is_spelt.Given as goal

abbrev pub invariant-loop-at : goal.invariant-loop-at
invariant-loop-at l = record {
  same_len : length l.word ≡ length l.capitals;
  found : bytes_eq (map to_ascii_uppercase (drop l.at l.word)) (drop l.at l.capitals) ≡ bytes_eq (map to_ascii_uppercase l.word) l.capitals;
}
