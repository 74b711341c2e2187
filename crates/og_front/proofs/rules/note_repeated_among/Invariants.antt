use Rattle.std.proofs.Common.{map}
use Rattle.og_base.specs.Order.{first_from}
use Rattle.og_front.specs.Rules.{key, with_names, repeated_from}
use Rattle.og_names.proofs.Loops.{Left}
use Rattle.og_front.proofs.rules.note_repeated_among.Given as goal

abbrev pub invariant-loop-name : goal.invariant-loop-name
invariant-loop-name l =
    Left (λ ys. with_names l.table (map key ys)) l.names l.name-index (with_names l.initial.table (map key l.names))
    × Left (λ ys. first_from l.first (repeated_from l.table ys)) l.names l.name-index (first_from l.initial.first (repeated_from l.initial.table l.names))
