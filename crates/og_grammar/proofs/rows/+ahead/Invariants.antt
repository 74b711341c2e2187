use Rattle.std.proofs.Common.{length}
use Rattle.og_grammar.proofs.rows.+ahead.Given as goal

-- proposed from what the function passes where it calls itself
abbrev pub decreases-ahead : goal.decreases-ahead
decreases-ahead l = length l.symbols.now
