use Rattle.std.proofs.Common.{◌≡◌, ◌++◌, length, IsTrue}
use Rattle.og_grammar.specs.Rows.{rows_of}
use Rattle.og_grammar.specs.Predictive.{are_known}
use Rattle.og_grammar.proofs.rows.rows_for.Given as goal

abbrev pub invariant-loop-rest : goal.invariant-loop-rest
invariant-loop-rest l = (l.rows ++ rows_of l.part l.rest l.parts l.follows ≡ rows_of l.part l.table l.parts l.follows) × IsTrue (are_known (length l.parts) l.rest)

abbrev pub decreases-loop-rest : goal.decreases-loop-rest
decreases-loop-rest l = length l.rest
