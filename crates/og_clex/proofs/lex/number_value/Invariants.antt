use Rattle.std.proofs.Common.{◌≡◌, ◌-◌, ◌^◌, ◌≤◌, true, min, drop}
use Rattle.std.specs.List.{list_all}
use Rattle.std.specs.Str.Parse.{digits_value_after, digits_value}
use Rattle.og_csubset.specs.Tokens.{is_digit}
use Rattle.og_clex.proofs.lex.number_value.Given as goal

abbrev pub invariant-loop-digit : goal.invariant-loop-digit
invariant-loop-digit l = record {
  fits : l.value ≤ 2 ^ 64 - 1;
  all : list_all is_digit (drop l.digit-index l.digits) ≡ true;
  found : min (digits_value_after 10 l.value (drop l.digit-index l.digits)) (2 ^ 64 - 1) ≡ min (digits_value 10 l.digits) (2 ^ 64 - 1);
}
