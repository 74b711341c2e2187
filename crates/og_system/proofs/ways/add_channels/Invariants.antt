use Rattle.og_system.specs.Ways.{paths_of_system_part}
use Rattle.og_system.proofs.Along.{Passing}
use Rattle.og_system.proofs.ways.add_channels.Given as goal

abbrev pub invariant-loop-part : goal.invariant-loop-part
invariant-loop-part l =
    Passing l.name paths_of_system_part l.parts l.part-index l.tables l.initial.tables
