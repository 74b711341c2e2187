use Rattle.og_front.specs.Building.{all_given}
use Rattle.og_names.proofs.Loops.{Left}
use Rattle.og_front.proofs.build.add_handlers.Given as goal

abbrev pub invariant-loop-text : goal.invariant-loop-text
invariant-loop-text l =
    Left (λ ys. all_given l.tables l.body ys l.states.items) l.texts l.text-index (all_given l.tables 1 l.texts l.initial.states.items)
