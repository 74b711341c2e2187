use Rattle.std.proofs.Common.{◌≡◌, ◌-◌, ◌≤◌, length, drop}
use Rattle.og_lexer.specs.Front.{later}
use Rattle.og_lexer.specs.AsnFront.{nested_end}
use Rattle.og_lexer.proofs.scan.nested_end.Given as goal

abbrev pub invariant-loop-at : goal.invariant-loop-at
invariant-loop-at l = record {
  within : l.at ≤ length l.bytes;
  open_below : l.open ≤ l.at;
  found : later l.at (nested_end l.open (drop l.at l.bytes)) ≡ nested_end 0 l.bytes;
}

abbrev pub decreases-loop-at : goal.decreases-loop-at
decreases-loop-at l = length l.initial.bytes - l.at
