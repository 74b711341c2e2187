use Rattle.og_dataview.specs.Following.{next_constant}
use Rattle.og_dataview.proofs.Tables.{Tabulated}
use Rattle.og_dataview.proofs.scope.Scope.next_constants.Given as goal

abbrev pub invariant-loop-place : goal.invariant-loop-place
invariant-loop-place l = Tabulated (next_constant l.self.flat) l.nexts.items l.place
