use Rattle.std.proofs.Common.{map}
use Rattle.og_front.specs.Rules.{key, with_names, table_of}
use Rattle.og_names.proofs.Loops.{Left}
use Rattle.og_front.proofs.rules.state_table.Given as goal

abbrev pub invariant-loop-state : goal.invariant-loop-state
invariant-loop-state l =
    Left (λ ys. with_names l.table (map key (map (λ state. state.name) ys))) l.states l.state-index (table_of (map (λ state. state.name) l.states))
