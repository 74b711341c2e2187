use Rattle.std.proofs.Common.{◌≡◌, ◌+◌, ◌-◌, ◌≤◌, length, drop}
use Rattle.std.specs.List.{prefix_len}
use Rattle.og_stim.specs.Lines.{test_of}
use Rattle.og_stim.proofs.lines.run_len.Given as goal

abbrev pub invariant-loop-len : goal.invariant-loop-len
invariant-loop-len l = record {
  within : l.len ≤ length l.bytes;
  found : l.len + prefix_len (test_of l.class) (drop l.len l.bytes) ≡ prefix_len (test_of l.class) l.bytes;
}

abbrev pub decreases-loop-len : goal.decreases-loop-len
decreases-loop-len l = length l.initial.bytes - l.len
