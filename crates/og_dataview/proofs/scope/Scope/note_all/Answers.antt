use Rattle.std.proofs.Common.{map, ap, ◌∙◌}
use Rattle.std.specs.List.{flat_map}
use Rattle.og_base.specs.Order.{first_from}
use Rattle.og_flat.specs.declared.flat.TypeNode.{TypeNode}
use Rattle.og_flat.specs.declared.flat.ConstantNode.{ConstantNode}
use Rattle.og_dataview.specs.Violations.{repeated_names, built_in_again, in_node, used_by_constant}
use Rattle.og_dataview.proofs.Noting.{first_of_five}
use Rattle.og_dataview.proofs.scope.Scope.note_all.Goals as goal

pub returns : goal.returns
returns c =
    let flat = c.args.self.now.flat in
    first_of_five c.args.first.now c.note_repeated_names.new.first c.note_built_in_again.new.first c.note_repeated_names-2.new.first c.note_nodes.new.first c.note_constants.new.first
    (repeated_names (map (λ (t : TypeNode). t.name) flat.types)) (flat_map built_in_again flat.types) (repeated_names (map (λ (x : ConstantNode). x.name) flat.constants)) (flat_map (in_node flat) flat.nodes)
    (flat_map (used_by_constant flat) flat.constants)
    (c.in_ok-note_repeated_names.ensures ∙ ap (λ ts. first_from c.args.first.now (repeated_names (map (λ (t : TypeNode). t.name) ts))) c.as_slice.ensures)
    (c.note_built_in_again.ensures ∙ ap (λ ts. first_from c.note_repeated_names.new.first (flat_map built_in_again ts)) c.as_slice-2.ensures)
    (c.in_ok-note_repeated_names-2.ensures ∙ ap (λ cs. first_from c.note_built_in_again.new.first (repeated_names (map (λ (x : ConstantNode). x.name) cs))) c.as_slice-3.ensures)
    (c.in_ok-note_nodes.ensures ∙ ap (λ ns. first_from c.note_repeated_names-2.new.first (flat_map (in_node c.args.self.now.flat) ns)) c.as_slice-4.ensures)
    (c.note_constants.ensures ∙ ap (λ cs. first_from c.note_nodes.new.first (flat_map (used_by_constant c.args.self.now.flat) cs)) c.as_slice-5.ensures)
