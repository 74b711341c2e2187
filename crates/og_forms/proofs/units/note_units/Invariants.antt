use Rattle.og_forms.specs.Forms.{in_unit}
use Rattle.og_forms.proofs.FirstSoFar.{Noted}
use Rattle.og_forms.proofs.units.note_units.Given as goal

abbrev pub invariant-loop-unit : goal.invariant-loop-unit
invariant-loop-unit l = Noted in_unit l.units l.unit-index l.first l.initial.first
