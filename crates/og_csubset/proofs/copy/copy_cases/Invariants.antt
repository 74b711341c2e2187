use Rattle.std.proofs.Common.{◌≡◌, take}
use Rattle.og_csubset.proofs.copy.copy_cases.Given as goal

abbrev pub invariant-loop-case : goal.invariant-loop-case
invariant-loop-case l = l.copied ≡ take l.case-index l.cases
