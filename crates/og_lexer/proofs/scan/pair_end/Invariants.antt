use Rattle.std.proofs.Common.{◌≡◌, ◌-◌, ◌≤◌, length, drop}
use Rattle.og_lexer.specs.Front.{pair_end, plus}
use Rattle.og_lexer.proofs.scan.pair_end.Given as goal

abbrev pub invariant-loop-at : goal.invariant-loop-at
invariant-loop-at l = record {
  within : l.at ≤ length l.bytes;
  found : plus l.at (pair_end l.first l.second l.in_line (drop l.at l.bytes)) ≡ pair_end l.first l.second l.in_line l.bytes;
}

abbrev pub decreases-loop-at : goal.decreases-loop-at
decreases-loop-at l = length l.initial.bytes - l.at
