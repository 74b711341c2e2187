use Rattle.og_base.specs.Order.{first_from}
use Rattle.og_front.specs.Rules.{handlers_in, with_handlers, repeated_handlers_from}
use Rattle.og_names.proofs.Loops.{Left}
use Rattle.og_front.proofs.rules.note_repeated_in_inputs.Given as goal

abbrev pub invariant-loop-input : goal.invariant-loop-input
invariant-loop-input l =
    Left (λ ys. with_handlers l.handled.keys (handlers_in l.tables l.state ys)) l.inputs l.input-index
    (with_handlers l.initial.handled.keys (handlers_in l.tables l.state l.inputs))
    × Left (λ ys. first_from l.first (repeated_handlers_from l.handled.keys (handlers_in l.tables l.state ys))) l.inputs l.input-index
    (first_from l.initial.first (repeated_handlers_from l.initial.handled.keys (handlers_in l.tables l.state l.inputs)))
