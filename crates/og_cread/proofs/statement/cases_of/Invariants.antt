use Rattle.std.proofs.Common.{◌-◌}
use Rattle.og_csubset.specs.Reading.{each_at}
use Rattle.og_cread.specs.Trees.{case_front}
use Rattle.og_clex.specs.Views.{tokens_view}
use Rattle.og_cread.proofs.Turns.{SoFar}
use Rattle.og_cread.proofs.statement.cases_of.Given as goal

abbrev pub invariant-loop : goal.invariant-loop
invariant-loop l = SoFar case_front l.cases (l.turns - l.counter) (tokens_view l.rest) (each_at case_front l.turns (tokens_view l.tokens))
