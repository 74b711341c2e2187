use Rattle.og_forms.specs.Forms.{in_connection}
use Rattle.og_forms.proofs.FirstSoFar.{noted_more}
use Rattle.og_forms.proofs.states.note_connections.Goals as goal

pub loop-connection-preserved : goal.loop-connection-preserved
loop-connection-preserved c =
    noted_more in_connection c.args.connections.now c.loop-connection.connection-index c.connection-item.result c.loop-connection.first c.note_connection.new.first c.args.first.now
    c.loop-connection-test.true c.connection-item.is (cc) c.loop-connection.invariant
