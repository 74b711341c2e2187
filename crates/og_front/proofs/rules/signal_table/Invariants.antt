use Rattle.std.proofs.Common.{map}
use Rattle.std.specs.List.{flat_map}
use Rattle.og_front.specs.Names.{declared_by}
use Rattle.og_front.specs.Rules.{key, with_names, table_of}
use Rattle.og_names.proofs.Loops.{Left}
use Rattle.og_front.proofs.rules.signal_table.Given as goal

abbrev pub invariant-loop-signal : goal.invariant-loop-signal
invariant-loop-signal l =
    Left (λ ys. with_names l.table (map key (flat_map declared_by ys))) l.signals l.signal-index (table_of (flat_map declared_by l.signals))
