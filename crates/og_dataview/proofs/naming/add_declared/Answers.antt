use Rattle.og_dataview.specs.View.{names_declared_by}
use Rattle.og_dataview.proofs.Adding.{added_mapped}
use Rattle.og_dataview.proofs.naming.add_declared.Goals as goal

pub loop-assignment-preserved : goal.loop-assignment-preserved
loop-assignment-preserved c =
    added_mapped names_declared_by c.args.assignments.now c.loop-assignment.assignment-index c.assignment-item.result c.args.names.now c.loop-assignment.names c.add_assignment.new.names
    c.loop-assignment-test.true c.assignment-item.is c.in_ok-add_assignment.ensures.added c.in_ok-add_assignment.ensures.front c.loop-assignment.invariant
