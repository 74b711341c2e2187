use Rattle.og_dataview.specs.View.{names_in, names_in_parts}
use Rattle.og_dataview.proofs.Adding.{Adding}
use Rattle.og_dataview.proofs.naming.+names.Given as goal

abbrev pub invariant-add_parts-loop-comp : goal.invariant-add_parts-loop-comp
invariant-add_parts-loop-comp l = Adding (names_in_parts names_in) l.comps l.comp-index l.initial.names l.names
