use Rattle.std.proofs.Common.{◌≡◌, ◌++◌, length}
use Rattle.og_grammar.specs.Sentence.{body_of}
use Rattle.og_grammar.proofs.rows.body_of.Given as goal

abbrev pub invariant-loop-rest : goal.invariant-loop-rest
invariant-loop-rest l = l.symbols ++ body_of l.rest ≡ body_of l.table

abbrev pub decreases-loop-rest : goal.decreases-loop-rest
decreases-loop-rest l = length l.rest
