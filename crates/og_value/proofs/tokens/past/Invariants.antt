use Rattle.std.proofs.Common.{◌≡◌, ◌≤◌, length}
use Rattle.og_value.specs.Bytes.{behind}
use Rattle.og_value.specs.Scans.{test_of}
use Rattle.og_value.proofs.tokens.past.Given as goal

abbrev pub invariant-loop-rest : goal.invariant-loop-rest
invariant-loop-rest l = (behind (test_of l.class) l.rest ≡ behind (test_of l.class) l.bytes) × (length l.rest ≤ length l.bytes)

abbrev pub decreases-loop-rest : goal.decreases-loop-rest
decreases-loop-rest l = length l.rest
