use Rattle.og_dataview.specs.View.{next_same}
use Rattle.og_dataview.proofs.Tables.{Tabulated}
use Rattle.og_datatypes.proofs.sames.next_sames.Given as goal

abbrev pub invariant-loop-place : goal.invariant-loop-place
invariant-loop-place l = Tabulated (next_same l.scope.flat) l.nexts.items l.place
