use Rattle.og_declared.specs.Sorts.{in_sort}
use Rattle.og_declared.specs.Tables.{is_other}
use Rattle.og_system.proofs.Noticed.{Noted}
use Rattle.og_declared.proofs.sorts.note_signal.Given as goal

abbrev pub invariant-loop-sort : goal.invariant-loop-sort
invariant-loop-sort l = Noted (in_sort l.outside.types (is_other l.outside l.system l.block) l.signal.name) l.sorts l.sort-index l.first l.initial.first
