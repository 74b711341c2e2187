use Rattle.std.specs.List.{flat_map}
use Rattle.og_dataview.specs.View.{names_declared_by}
use Rattle.og_dataview.proofs.Adding.{Adding}
use Rattle.og_dataview.proofs.naming.add_declared.Given as goal

abbrev pub invariant-loop-assignment : goal.invariant-loop-assignment
invariant-loop-assignment l = Adding (flat_map names_declared_by) l.assignments l.assignment-index l.initial.names l.names
