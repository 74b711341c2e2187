use Rattle.std.proofs.Common.{map}
use Rattle.og_names.specs.Folding.{folded}
use Rattle.og_front.specs.Rules.{with_names}
use Rattle.og_names.proofs.Loops.{Left}
use Rattle.og_front.proofs.rules.add_each.Given as goal

abbrev pub invariant-loop-name : goal.invariant-loop-name
invariant-loop-name l =
    Left (λ ys. with_names l.table (map (λ name. folded name.now) ys)) l.names l.name-index (with_names l.initial.table (map (λ name. folded name.now) l.names))
