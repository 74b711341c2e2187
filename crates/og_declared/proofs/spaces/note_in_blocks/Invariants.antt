use Rattle.og_declared.specs.Tables.{in_spaces_of_part}
use Rattle.og_system.proofs.Noticed.{Noted}
use Rattle.og_declared.proofs.spaces.note_in_blocks.Given as goal

abbrev pub invariant-loop-part : goal.invariant-loop-part
invariant-loop-part l = Noted in_spaces_of_part l.parts l.part-index l.first l.initial.first
