use Rattle.og_dataview.specs.Following.{numbers_at}
use Rattle.og_dataview.proofs.Tables.{Tabulated}
use Rattle.og_datatypes.proofs.ranges.own_ranges.Given as goal

abbrev pub invariant-loop-place : goal.invariant-loop-place
invariant-loop-place l = Tabulated (numbers_at l.valued.scope.flat) l.owns.items l.place
