use Rattle.og_system.specs.Closing.{in_system_part}
use Rattle.og_system.proofs.Noticed.{Noted}
use Rattle.og_system.proofs.closing.note_system_parts.Given as goal

abbrev pub invariant-loop-part : goal.invariant-loop-part
invariant-loop-part l = Noted in_system_part l.parts l.part-index l.first l.initial.first
