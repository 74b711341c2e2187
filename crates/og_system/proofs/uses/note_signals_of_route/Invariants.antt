use Rattle.og_system.specs.Scopes.{used}
use Rattle.og_system.specs.Tables.{seen_by_block}
use Rattle.og_system.proofs.Noticed.{Noted}
use Rattle.og_system.proofs.uses.note_signals_of_route.Given as goal

abbrev pub invariant-loop-name : goal.invariant-loop-name
invariant-loop-name l = Noted (used (seen_by_block l.around l.system l.block).signal (seen_by_block l.around l.system l.block)) l.signals l.name-index l.first l.initial.first
