use Rattle.std.proofs.Common.{map}
use Rattle.og_front.specs.Rules.{key, with_names}
use Rattle.og_names.proofs.Loops.{Left}
use Rattle.og_front.proofs.rules.add_names.Given as goal

abbrev pub invariant-loop-name : goal.invariant-loop-name
invariant-loop-name l =
    Left (λ ys. with_names l.table (map key ys)) l.names l.name-index (with_names l.initial.table (map key l.names))
