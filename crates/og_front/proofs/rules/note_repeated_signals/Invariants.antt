use Rattle.std.proofs.Common.{[]}
use Rattle.std.specs.List.{flat_map}
use Rattle.og_base.specs.Order.{first_from}
use Rattle.og_front.specs.Names.{declared_by}
use Rattle.og_front.specs.Rules.{repeated_from}
use Rattle.og_names.proofs.Loops.{Left}
use Rattle.og_front.proofs.rules.note_repeated_signals.Given as goal

abbrev pub invariant-loop-signal : goal.invariant-loop-signal
invariant-loop-signal l =
    Left (λ ys. first_from l.first (repeated_from l.table (flat_map declared_by ys))) l.signals l.signal-index (first_from l.initial.first (repeated_from [] (flat_map declared_by l.signals)))
