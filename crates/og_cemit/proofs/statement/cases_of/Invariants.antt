use Rattle.std.proofs.Common.{◌≡◌, take, map}
use Rattle.og_cemit.specs.Emitted.{case_at}
use Rattle.og_cemit.proofs.statement.cases_of.Given as goal

abbrev pub invariant-loop-case : goal.invariant-loop-case
invariant-loop-case l = l.made ≡ map (case_at l.function) (take l.case-index l.cases)
