use Rattle.std.proofs.Common.{◌≡◌}
use Rattle.og_grammar.specs.Rows.{rows_below}
use Rattle.og_grammar.proofs.rows.all_rows.Given as goal

abbrev pub invariant-loop-at : goal.invariant-loop-at
invariant-loop-at l = l.rows ≡ rows_below l.table l.parts l.at
