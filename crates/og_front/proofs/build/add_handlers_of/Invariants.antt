use Rattle.std.proofs.Common.{◌≡◌, ◌+◌}
use Rattle.og_front.specs.Building.{handlers_from, given}
use Rattle.og_names.proofs.Loops.{Left}
use Rattle.og_front.proofs.build.add_handlers_of.Given as goal

abbrev pub invariant-loop-input : goal.invariant-loop-input
invariant-loop-input l =
    Left (λ ys. given l.state (handlers_from l.tables l.text.name l.body ys) l.states.items) l.text.inputs l.input-index
    (given l.state (handlers_from l.tables l.text.name l.first l.text.inputs) l.initial.states.items)
    × (l.body ≡ l.first + l.input-index)
