use Rattle.std.proofs.Common.{◌≡◌, take}
use Rattle.og_asn1.proofs.run.copied.Given as goal

abbrev pub invariant-loop-token : goal.invariant-loop-token
invariant-loop-token l = l.copy ≡ take l.token-index l.tokens
