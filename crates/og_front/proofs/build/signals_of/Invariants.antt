use Rattle.std.proofs.Common.{map, ◌++◌}
use Rattle.std.specs.List.{flat_map}
use Rattle.og_front.specs.Names.{declared_by}
use Rattle.og_front.specs.ModelOf.{signal_of}
use Rattle.og_names.proofs.Loops.{Left}
use Rattle.og_front.proofs.build.signals_of.Given as goal

abbrev pub invariant-loop-text : goal.invariant-loop-text
invariant-loop-text l =
    Left (λ ys. l.signals ++ map (signal_of l.names) (flat_map declared_by ys)) l.texts l.text-index (map (signal_of l.names) (flat_map declared_by l.texts))
