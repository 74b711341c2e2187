use Rattle.std.proofs.Common.{false}
use Rattle.og_names.proofs.Loops.{Left}
use Rattle.og_front.proofs.Underlines.{after}
use Rattle.og_front.proofs.rules.has_double_underline.Given as goal

abbrev pub invariant-loop-byte : goal.invariant-loop-byte
invariant-loop-byte l = Left (after l.before) l.bytes l.byte-index (after false l.bytes)
