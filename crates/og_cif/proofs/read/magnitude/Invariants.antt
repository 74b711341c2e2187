use Rattle.std.proofs.Common.{◌≡◌, ◌-◌, ◌^◌, ◌≤◌, min, drop}
use Rattle.og_lexer.specs.Bytes.{number_from, number_of}
use Rattle.og_cif.proofs.read.magnitude.Given as goal

abbrev pub invariant-loop-digit : goal.invariant-loop-digit
invariant-loop-digit l = record {
  fits : l.value ≤ 2 ^ 64 - 1;
  found : min (number_from l.value (drop l.digit-index l.digits)) (2 ^ 64 - 1) ≡ min (number_of l.digits) (2 ^ 64 - 1);
}
