use Rattle.og_system.specs.Scopes.{channels_of_system_part}
use Rattle.og_system.proofs.Adding.{Adding}
use Rattle.og_system.proofs.declared.add_channels.Given as goal

abbrev pub invariant-loop-part : goal.invariant-loop-part
invariant-loop-part l = Adding channels_of_system_part l.parts l.part-index l.table l.initial.table
