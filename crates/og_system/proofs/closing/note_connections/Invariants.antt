use Rattle.og_system.specs.Closing.{in_connection}
use Rattle.og_system.proofs.Noticed.{Noted}
use Rattle.og_system.proofs.closing.note_connections.Given as goal

abbrev pub invariant-loop-connection : goal.invariant-loop-connection
invariant-loop-connection l = Noted in_connection l.connections l.connection-index l.first l.initial.first
