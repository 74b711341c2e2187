use Rattle.og_dataview.specs.View.{is_made_of, same_as}
use Rattle.og_dataview.proofs.Tables.{Tabulated}
use Rattle.og_datatypes.specs.Kept.{is_marked}
use Rattle.og_datatypes.proofs.known.Known.one_deeper.Given as goal

abbrev pub invariant-loop-place : goal.invariant-loop-place
invariant-loop-place l = Tabulated (λ p. is_made_of l.self.limited.valued.scope.flat (is_marked l.within) (same_as l.self.limited.valued.scope.flat p)) l.next.items l.place
