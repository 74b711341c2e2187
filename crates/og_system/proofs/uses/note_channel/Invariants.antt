use Rattle.og_system.specs.Scopes.{in_path}
use Rattle.og_system.specs.Tables.{seen_by_system}
use Rattle.og_system.proofs.Noticed.{Noted}
use Rattle.og_system.proofs.uses.note_channel.Given as goal

abbrev pub invariant-loop-path : goal.invariant-loop-path
invariant-loop-path l = Noted (in_path (seen_by_system l.around l.system).block (seen_by_system l.around l.system)) l.paths l.path-index l.first l.initial.first
