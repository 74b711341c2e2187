use Rattle.std.proofs.Common.{sym, ◌∙◌}
use Rattle.og_system.specs.Lent.{read_home}
use Rattle.og_system.proofs.Along.{by_routes, by_channels}
use Rattle.og_system.proofs.ways.WayTables.of.Goals as goal

pub returns-then-has_route : goal.returns-then-has_route
returns-then-has_route c =
    c.in_ok-tables.ensures ∙ by_routes c.args.process.now (read_home c.args.home.now) (sym c.has_route.ensures ∙ c.if-has_route.true)

pub returns-then-has_channel_path : goal.returns-then-has_channel_path
returns-then-has_channel_path c =
    c.in_ok-tables-2.ensures
    ∙ by_channels c.args.process.now (read_home c.args.home.now) (sym c.has_route.ensures ∙ c.if-has_route.false) (sym c.has_channel_path.ensures ∙ c.if-has_channel_path.true)
