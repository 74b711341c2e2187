use Rattle.std.proofs.Common.{◌≡◌, [], ap, ◌∙◌}
use Rattle.std.specs.List.{flat_map}
use Rattle.og_base.specs.Order.{first_from}
use Rattle.og_front.specs.Names.{declared_by}
use Rattle.og_front.specs.Rules.{repeated_from, unknown_names, repeated_signals, double_underlines}
use Rattle.og_front.proofs.Additions.{first_of_three}
use Rattle.og_front.proofs.rules.first_on_names.Goals as goal

pub returns : goal.returns
returns c =
    let repeated : c.note_repeated_signals.new.first ≡ first_from c.note_unknown_names.new.first (repeated_signals c.args.system.now) =
    c.in_ok-note_repeated_signals.ensures ∙ ap (λ signals. first_from c.note_unknown_names.new.first (repeated_from [] (flat_map declared_by signals))) c.as_slice.ensures in
    first_of_three (unknown_names c.args.tables.now c.args.system.now) (repeated_signals c.args.system.now) (double_underlines c.args.system.now) _ _ _
    c.note_unknown_names.ensures repeated c.note_double_underlines.ensures
