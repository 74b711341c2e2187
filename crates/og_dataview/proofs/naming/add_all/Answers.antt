use Rattle.std.proofs.Common.{ap, ◌∙◌}
use Rattle.std.specs.List.{flat_map}
use Rattle.og_asn1.specs.declared.syntax.ModuleTree.{ModuleTree}
use Rattle.og_dataview.specs.View.{names_declared_by, with_names}
use Rattle.og_dataview.proofs.Adding.{added_mapped}
use Rattle.og_dataview.proofs.naming.add_all.Goals as goal

pub loop-tree-preserved : goal.loop-tree-preserved
loop-tree-preserved c =
    added_mapped (λ (m : ModuleTree). flat_map names_declared_by m.assignments) c.args.modules.now c.loop-tree.tree-index c.tree-item.result c.args.names.now c.loop-tree.names c.add_declared.new.names
    c.loop-tree-test.true c.tree-item.is (c.in_ok-add_declared.ensures.added ∙ ap (λ xs. with_names c.loop-tree.names (flat_map names_declared_by xs)) c.as_slice.ensures)
    c.in_ok-add_declared.ensures.front c.loop-tree.invariant
