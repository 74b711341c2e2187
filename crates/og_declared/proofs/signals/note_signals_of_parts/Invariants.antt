use Rattle.og_declared.specs.Spaces.{signals_of_part}
use Rattle.og_declared.proofs.Spacing.{Spacing}
use Rattle.og_declared.proofs.signals.note_signals_of_parts.Given as goal

abbrev pub invariant-loop-part : goal.invariant-loop-part
invariant-loop-part l = Spacing signals_of_part l.parts l.part-index l.table l.initial.table l.first l.initial.first
