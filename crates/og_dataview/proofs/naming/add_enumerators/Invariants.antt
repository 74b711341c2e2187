use Rattle.og_dataview.proofs.Adding.{item_names}
use Rattle.og_dataview.proofs.Adding.{Adding}
use Rattle.og_dataview.proofs.naming.add_enumerators.Given as goal

abbrev pub invariant-loop-item : goal.invariant-loop-item
invariant-loop-item l = Adding item_names l.items l.item-index l.initial.names l.names
