use Rattle.std.proofs.Common.{◌++◌, map, ap, ◌∙◌}
use Rattle.og_system.specs.Lent.{read_home}
use Rattle.og_system.specs.Ways.{all_signals}
use Rattle.og_system.specs.WayTables.{directed_by, read_directed}
use Rattle.og_system.proofs.Along.{signals_are}
use Rattle.og_system.proofs.ways.signals_of.Goals as goal

pub returns : goal.returns
returns c =
    c.in_ok-add_units.ensures
    ∙ ap (λ xs. map read_directed xs ++ map (directed_by c.in_ok-tables.tables) (all_signals c.args.units.now (read_home c.args.home.now))) c.new-signals.ensures.items
    ∙ ap (λ t. map (directed_by t) (all_signals c.args.units.now (read_home c.args.home.now))) c.in_ok-tables.ensures
    ∙ signals_are c.args.units.now c.args.process.now (read_home c.args.home.now)
