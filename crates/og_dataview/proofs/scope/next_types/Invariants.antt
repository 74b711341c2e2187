use Rattle.og_dataview.specs.Following.{next_type}
use Rattle.og_dataview.proofs.Tables.{Tabulated}
use Rattle.og_dataview.proofs.scope.next_types.Given as goal

abbrev pub invariant-loop-place : goal.invariant-loop-place
invariant-loop-place l = Tabulated (next_type l.flat) l.nexts.items l.place
