use Rattle.std.proofs.Common.{◌-◌}
use Rattle.og_asn1.specs.Reading.{rest_of, behind_one, passed}
use Rattle.og_asn1.proofs.Turns.{PassedSoFar}
use Rattle.og_asn1.proofs.run.behind_exported.Given as goal

abbrev pub invariant-loop : goal.invariant-loop
invariant-loop l = PassedSoFar behind_one (l.end - l.counter) (rest_of l.left) (passed behind_one (rest_of l.from))
