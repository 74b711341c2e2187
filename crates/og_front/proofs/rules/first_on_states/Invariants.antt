use Rattle.std.proofs.Common.{[]}
use Rattle.std.specs.List.{flat_map}
use Rattle.og_base.specs.Order.{first_from, first_of}
use Rattle.og_front.specs.Rules.{handlers_of, repeated_handlers_from}
use Rattle.og_names.proofs.Loops.{Left}
use Rattle.og_front.proofs.rules.first_on_states.Given as goal

abbrev pub invariant-loop-state : goal.invariant-loop-state
invariant-loop-state l =
    Left (λ ys. first_from l.first (repeated_handlers_from l.handled.keys (flat_map (handlers_of l.tables) ys))) l.states l.state-index (first_of (repeated_handlers_from [] (flat_map (handlers_of l.tables) l.states)))
