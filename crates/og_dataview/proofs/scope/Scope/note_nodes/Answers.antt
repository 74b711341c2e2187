use Rattle.og_dataview.specs.Violations.{in_node}
use Rattle.og_dataview.proofs.Noting.{noted_more}
use Rattle.og_dataview.proofs.scope.Scope.note_nodes.Goals as goal

pub loop-node-preserved : goal.loop-node-preserved
loop-node-preserved c =
    noted_more (in_node c.args.self.now.flat) c.args.nodes.now c.loop-node.node-index c.node-item.result c.loop-node.first c.note_node.new.first c.args.first.now
    c.loop-node-test.true c.node-item.is c.in_ok-note_node.ensures c.loop-node.invariant
