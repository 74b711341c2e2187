use Rattle.og_dataview.proofs.Tables.{Tabulated}
use Rattle.og_datatypes.specs.Kept.{form_at}
use Rattle.og_datatypes.proofs.limits.Limited.forms.Given as goal

abbrev pub invariant-loop-place : goal.invariant-loop-place
invariant-loop-place l = Tabulated (form_at l.self.valued.scope.flat) l.forms.items l.place
