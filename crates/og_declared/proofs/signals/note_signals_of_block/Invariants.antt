use Rattle.og_system.specs.Scopes.{signals_of_block_part}
use Rattle.og_declared.proofs.Spacing.{Spacing}
use Rattle.og_declared.proofs.signals.note_signals_of_block.Given as goal

abbrev pub invariant-loop-part : goal.invariant-loop-part
invariant-loop-part l = Spacing signals_of_block_part l.parts l.part-index l.table l.initial.table l.first l.initial.first
