use Rattle.std.proofs.Common.{◌≡◌, take}
use Rattle.og_csubset.proofs.copy.copy_statements.Given as goal

abbrev pub invariant-loop-statement : goal.invariant-loop-statement
invariant-loop-statement l = l.copied ≡ take l.statement-index l.statements
