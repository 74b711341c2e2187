use Rattle.og_dataview.specs.Violations.{in_node}
use Rattle.og_dataview.proofs.Noting.{Noted}
use Rattle.og_dataview.proofs.scope.Scope.note_nodes.Given as goal

abbrev pub invariant-loop-node : goal.invariant-loop-node
invariant-loop-node l = Noted (in_node l.self.flat) l.nodes l.node-index l.first l.initial.first
