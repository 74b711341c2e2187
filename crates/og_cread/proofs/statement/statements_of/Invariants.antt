use Rattle.std.proofs.Common.{◌-◌}
use Rattle.og_csubset.specs.Reading.{each_at}
use Rattle.og_cread.specs.Trees.{statement_front}
use Rattle.og_clex.specs.Views.{tokens_view}
use Rattle.og_cread.proofs.Turns.{SoFar}
use Rattle.og_cread.proofs.statement.statements_of.Given as goal

abbrev pub invariant-loop : goal.invariant-loop
invariant-loop l = SoFar (statement_front l.depth) l.statements (l.depth - l.counter) (tokens_view l.rest) (each_at (statement_front l.depth) l.depth (tokens_view l.tokens))
