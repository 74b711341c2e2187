use Rattle.og_front.specs.Rules.{as_signal}
use Rattle.og_front.proofs.Loops.{Noted}
use Rattle.og_front.proofs.rules.note_unknown_signals.Given as goal

abbrev pub invariant-loop-name : goal.invariant-loop-name
invariant-loop-name l = Noted (as_signal l.tables) l.names l.name-index l.first l.initial.first
