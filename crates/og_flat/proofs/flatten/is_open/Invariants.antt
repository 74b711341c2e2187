use Rattle.og_names.proofs.Loops.{Left}
use Rattle.og_flat.specs.Flattening.{is_open}
use Rattle.og_flat.proofs.flatten.is_open.Given as goal

abbrev pub invariant-loop-item : goal.invariant-loop-item
invariant-loop-item l = Left is_open l.items l.item-index (is_open l.items)
