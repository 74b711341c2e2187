use Rattle.std.proofs.Common.{◌≡◌, ◌+◌, ◌-◌, ◌≤◌, length, drop}
use Rattle.std.specs.List.{prefix_len}
use Rattle.og_lexer.specs.AsnFront.{is_not}
use Rattle.og_lexer.proofs.scan.others_len.Given as goal

abbrev pub invariant-loop-len : goal.invariant-loop-len
invariant-loop-len l = record {
  within : l.len ≤ length l.bytes;
  found : l.len + prefix_len (is_not l.byte) (drop l.len l.bytes) ≡ prefix_len (is_not l.byte) l.bytes;
}

abbrev pub decreases-loop-len : goal.decreases-loop-len
decreases-loop-len l = length l.initial.bytes - l.len
