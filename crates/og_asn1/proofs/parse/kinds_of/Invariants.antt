use Rattle.std.proofs.Common.{◌≡◌, take}
use Rattle.og_asn1.specs.Kinds.{kinds_of}
use Rattle.og_asn1.proofs.parse.kinds_of.Given as goal

abbrev pub invariant-loop-token : goal.invariant-loop-token
invariant-loop-token l = l.kinds.items ≡ kinds_of (take l.token-index l.tokens)
