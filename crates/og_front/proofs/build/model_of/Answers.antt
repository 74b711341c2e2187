use Rattle.std.proofs.Common.{List, map, ap, ◌∙◌}
use Rattle.std.specs.List.{flat_map}
use Rattle.og_front.specs.declared.syntax.SignalText.{SignalText}
use Rattle.og_front.specs.ModelOf.{signal_of}
use Rattle.og_front.specs.Names.{declared_by}
use Rattle.og_front.proofs.Building.{model_made}
use Rattle.og_front.proofs.build.model_of.Goals as goal

pub returns : goal.returns
returns c =
    model_made c.args.tables.now c.args.system.now c.in_ok-names.names c.id_of.result c.in_ok-signals.signals c.in_ok-root.root c.new.result c.new-2.result c.new-3.result c.new-4.result c.requires.tables c.in_ok-names.ensures
    c.id_of.ensures (c.in_ok-signals.ensures ∙ ap (λ (ss : List SignalText). map (signal_of c.in_ok-names.names) (flat_map declared_by ss)) c.as_slice.ensures) c.in_ok-root.ensures c.new.ensures c.new-2.ensures c.new-3.ensures
    c.new-4.ensures
