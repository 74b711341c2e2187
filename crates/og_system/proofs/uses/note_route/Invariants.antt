use Rattle.og_system.specs.Scopes.{in_path}
use Rattle.og_system.specs.Tables.{seen_by_block}
use Rattle.og_system.proofs.Noticed.{Noted}
use Rattle.og_system.proofs.uses.note_route.Given as goal

abbrev pub invariant-loop-path : goal.invariant-loop-path
invariant-loop-path l = Noted (in_path (seen_by_block l.around l.system l.block).process (seen_by_block l.around l.system l.block)) l.paths l.path-index l.first l.initial.first
