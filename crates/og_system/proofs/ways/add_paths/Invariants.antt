use Rattle.og_system.proofs.Along.{PassingEach}
use Rattle.og_system.proofs.ways.add_paths.Given as goal

abbrev pub invariant-loop-path : goal.invariant-loop-path
invariant-loop-path l =
    PassingEach l.name l.paths l.path-index l.tables l.initial.tables
