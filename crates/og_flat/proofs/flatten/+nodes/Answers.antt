use Rattle.std.proofs.Common.{◌++◌, ◌-◌, ◌∙◌, length, ap, sym, length-append}
use Rattle.og_flat.specs.Flattening.{nodes_of}
use Rattle.og_flat.proofs.Layers.{nodes_layer}
use Rattle.og_flat.proofs.flatten.+nodes.Goals as goal

pub add_type-returns-clause-nodes : goal.add_type-returns-clause-nodes
add_type-returns-clause-nodes t c =
    c.in_ok-push.ensures.ok ∙ c.in_ok-node.ensures ∙ ap (λ ns. c.args.nodes.now ++ ns) (sym (nodes_layer (length c.args.nodes.now) c.args.tree.now))

pub add_type-returns-clause-number : goal.add_type-returns-clause-number
add_type-returns-clause-number t c =
    c.in_ok-number.ensures
    ∙ ap (λ m. m - 1) (c.len.ensures ∙ ap length (c.in_ok-push.ensures.ok ∙ c.in_ok-node.ensures ∙ ap (λ ns. c.args.nodes.now ++ ns) (sym (nodes_layer (length c.args.nodes.now) c.args.tree.now)))
    ∙ length-append c.args.nodes.now (nodes_of (length c.args.nodes.now) c.args.tree.now))
