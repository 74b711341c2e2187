use Rattle.og_forms.specs.Forms.{in_connection}
use Rattle.og_forms.proofs.FirstSoFar.{Noted}
use Rattle.og_forms.proofs.states.note_connections.Given as goal

abbrev pub invariant-loop-connection : goal.invariant-loop-connection
invariant-loop-connection l = Noted in_connection l.connections l.connection-index l.first l.initial.first
