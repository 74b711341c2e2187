use Rattle.og_system.specs.Bodies.{in_block_part}
use Rattle.og_system.specs.Tables.{seen_by_block}
use Rattle.og_system.proofs.Noticed.{Noted}
use Rattle.og_system.proofs.violations.note_block_parts.Given as goal

abbrev pub invariant-loop-part : goal.invariant-loop-part
invariant-loop-part l = Noted (in_block_part (seen_by_block l.around l.system l.block)) l.parts l.part-index l.first l.initial.first
