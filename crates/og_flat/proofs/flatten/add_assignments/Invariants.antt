use Rattle.og_names.proofs.Loops.{Left}
use Rattle.og_flat.specs.Flattening.{with_assignments}
use Rattle.og_flat.proofs.flatten.add_assignments.Given as goal

abbrev pub invariant-loop-assignment : goal.invariant-loop-assignment
invariant-loop-assignment l = Left (with_assignments l.flat) l.assignments l.assignment-index (with_assignments l.initial.flat l.assignments)
