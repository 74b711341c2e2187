use Rattle.og_system.specs.Tables.{system_part_by}
use Rattle.og_system.proofs.Noticed.{Noted}
use Rattle.og_system.proofs.violations.note_system_parts.Given as goal

abbrev pub invariant-loop-part : goal.invariant-loop-part
invariant-loop-part l = Noted (system_part_by l.around l.system) l.parts l.part-index l.first l.initial.first
