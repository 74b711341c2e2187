use Rattle.std.specs.List.{flat_map}
use Rattle.og_asn1.specs.declared.syntax.ModuleTree.{ModuleTree}
use Rattle.og_dataview.specs.View.{names_declared_by}
use Rattle.og_dataview.proofs.Adding.{Adding}
use Rattle.og_dataview.proofs.naming.add_all.Given as goal

abbrev pub invariant-loop-tree : goal.invariant-loop-tree
invariant-loop-tree l = Adding (flat_map (λ (m : ModuleTree). flat_map names_declared_by m.assignments)) l.modules l.tree-index l.initial.names l.names
