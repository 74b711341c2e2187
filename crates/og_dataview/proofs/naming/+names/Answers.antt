use Rattle.std.proofs.Common.{ap, sym, ◌∙◌}
use Rattle.og_dataview.specs.View.{with_names}
use Rattle.og_dataview.proofs.NameLayers.{names_layer}
use Rattle.og_dataview.proofs.naming.+names.Goals as goal

pub add_type-returns-clause-added : goal.add_type-returns-clause-added
add_type-returns-clause-added t c = c.in_ok-add_base.ensures.added ∙ ap (with_names c.args.names.now) (sym (names_layer c.args.tree.now))
