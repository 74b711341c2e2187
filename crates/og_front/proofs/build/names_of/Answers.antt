use Rattle.std.proofs.Common.{List, map, ap, ◌∙◌}
use Rattle.std.specs.List.{flat_map}
use Rattle.og_front.specs.declared.syntax.SignalText.{SignalText}
use Rattle.og_front.specs.declared.syntax.StateText.{StateText}
use Rattle.og_front.specs.Names.{declared_by, state_names}
use Rattle.og_front.specs.Rules.{key, with_names}
use Rattle.og_front.proofs.Building.{all_added}
use Rattle.og_front.proofs.build.names_of.Goals as goal

pub returns : goal.returns
returns c =
    all_added c.args.system.now c.new-names.result c.add_name.new.table c.add_all_declared.new.names c.add_name-2.new.table c.add_name-3.new.table c.add_name-4.new.table c.add_all_in_states.new.names
    c.new-names.ensures c.in_ok-add_name.ensures.added
    (c.in_ok-add_all_declared.ensures ∙ ap (λ (ss : List SignalText). with_names c.add_name.new.table (map key (flat_map declared_by ss))) c.as_slice.ensures) c.in_ok-add_name-2.ensures.added c.in_ok-add_name-3.ensures.added
    c.in_ok-add_name-4.ensures.added
    (c.in_ok-add_all_in_states.ensures ∙ ap (λ (ss : List StateText). with_names c.add_name-4.new.table (map key (flat_map state_names ss))) c.as_slice-2.ensures)
