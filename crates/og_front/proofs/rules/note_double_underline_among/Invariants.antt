use Rattle.og_front.specs.Rules.{double_underline}
use Rattle.og_front.proofs.Loops.{Noted}
use Rattle.og_front.proofs.rules.note_double_underline_among.Given as goal

abbrev pub invariant-loop-name : goal.invariant-loop-name
invariant-loop-name l = Noted double_underline l.names l.name-index l.first l.initial.first
