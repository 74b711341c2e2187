use Rattle.std.proofs.Common.{◌≡◌, ◌++◌, take, map}
use Rattle.og_flatten.specs.FlatCode.{no_label}
use Rattle.og_flatten.proofs.labels.put_labels_of_body.Given as goal

abbrev pub invariant-loop : goal.invariant-loop
invariant-loop l = l.labels ≡ l.initial.labels ++ map (λ step. no_label) (take l.index l.items)
