use Rattle.og_forms.specs.Forms.{in_block_part}
use Rattle.og_forms.proofs.FirstSoFar.{Noted}
use Rattle.og_forms.proofs.units.note_block_parts.Given as goal

abbrev pub invariant-loop-part : goal.invariant-loop-part
invariant-loop-part l = Noted in_block_part l.parts l.part-index l.first l.initial.first
