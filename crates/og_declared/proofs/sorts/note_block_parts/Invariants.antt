use Rattle.og_declared.specs.Sorts.{in_block_part}
use Rattle.og_declared.specs.Tables.{is_other}
use Rattle.og_system.proofs.Noticed.{Noted}
use Rattle.og_declared.proofs.sorts.note_block_parts.Given as goal

abbrev pub invariant-loop-part : goal.invariant-loop-part
invariant-loop-part l = Noted (in_block_part l.outside.types (is_other l.outside l.system l.block)) l.parts l.part-index l.first l.initial.first
