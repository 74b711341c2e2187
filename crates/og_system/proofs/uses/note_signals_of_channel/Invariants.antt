use Rattle.og_system.specs.Scopes.{used}
use Rattle.og_system.specs.Tables.{seen_by_system}
use Rattle.og_system.proofs.Noticed.{Noted}
use Rattle.og_system.proofs.uses.note_signals_of_channel.Given as goal

abbrev pub invariant-loop-name : goal.invariant-loop-name
invariant-loop-name l = Noted (used (seen_by_system l.around l.system).signal (seen_by_system l.around l.system)) l.signals l.name-index l.first l.initial.first
