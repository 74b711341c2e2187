use Rattle.og_dataview.proofs.Tables.{Tabulated}
use Rattle.og_dataview.proofs.ways.standing.Given as goal

abbrev pub invariant-loop-place : goal.invariant-loop-place
invariant-loop-place l = Tabulated (λ q. q) l.list.items l.place
