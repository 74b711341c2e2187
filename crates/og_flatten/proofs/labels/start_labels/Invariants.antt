use Rattle.std.proofs.Common.{◌≡◌, take}
use Rattle.og_flatten.specs.FlatCode.{start_words}
use Rattle.og_flatten.proofs.labels.start_labels.Given as goal

abbrev pub invariant-loop : goal.invariant-loop
invariant-loop l = l.labels ≡ start_words (take l.index l.bodies)
