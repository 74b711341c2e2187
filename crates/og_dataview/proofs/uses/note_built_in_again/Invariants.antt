use Rattle.og_dataview.specs.Violations.{built_in_again}
use Rattle.og_dataview.proofs.Noting.{Noted}
use Rattle.og_dataview.proofs.uses.note_built_in_again.Given as goal

abbrev pub invariant-loop-declared : goal.invariant-loop-declared
invariant-loop-declared l = Noted built_in_again l.types l.declared-index l.first l.initial.first
