use Rattle.og_declared.specs.Tables.{part_by}
use Rattle.og_system.proofs.Noticed.{Noted}
use Rattle.og_declared.proofs.sorts.note_system_parts.Given as goal

abbrev pub invariant-loop-part : goal.invariant-loop-part
invariant-loop-part l = Noted (part_by l.outside l.system) l.parts l.part-index l.first l.initial.first
