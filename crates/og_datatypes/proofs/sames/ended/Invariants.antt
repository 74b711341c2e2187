use Rattle.og_dataview.proofs.Tables.{Tabulated}
use Rattle.og_datatypes.specs.Kept.{ended_in}
use Rattle.og_datatypes.proofs.sames.ended.Given as goal

abbrev pub invariant-loop-place : goal.invariant-loop-place
invariant-loop-place l = Tabulated (ended_in l.nexts l.ends) l.sames.items l.place
