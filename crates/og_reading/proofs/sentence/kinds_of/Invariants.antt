use Rattle.std.proofs.Common.{◌≡◌, take}
use Rattle.og_reading.specs.Kinds.{kinds_of}
use Rattle.og_reading.proofs.sentence.kinds_of.Given as goal

abbrev pub invariant-loop-token : goal.invariant-loop-token
invariant-loop-token l = l.kinds.items ≡ kinds_of (take l.token-index l.tokens)
