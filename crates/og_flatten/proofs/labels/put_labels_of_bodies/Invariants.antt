use Rattle.std.proofs.Common.{◌++◌}
use Rattle.og_flatten.specs.FlatCode.{labels_of_bodies}
use Rattle.og_names.proofs.Loops.{Left}
use Rattle.og_flatten.proofs.labels.put_labels_of_bodies.Given as goal

abbrev pub invariant-loop-number : goal.invariant-loop-number
invariant-loop-number l =
    Left (λ ys. l.labels ++ labels_of_bodies l.words l.number ys) l.bodies l.number (l.initial.labels ++ labels_of_bodies l.words 0 l.bodies)
