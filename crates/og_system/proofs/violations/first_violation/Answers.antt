use Rattle.std.proofs.Common.{ap, ◌∙◌}
use Rattle.std.specs.List.{flat_map}
use Rattle.og_base.specs.Order.{first_from, first_of}
use Rattle.og_system.specs.Bodies.{bodies, miscounted}
use Rattle.og_system.specs.Tables.{unit_by}
use Rattle.og_system.proofs.ByTables.{first_by_tables}
use Rattle.og_system.proofs.violations.first_violation.Goals as goal

pub returns : goal.returns
returns c =
    c.in_ok-note_units.ensures
    ∙ ap (λ v. first_from v (flat_map (unit_by c.in_ok-around.around) c.args.units.now)) c.first_miscount-first.ensures
    ∙ ap (λ t. first_from (first_of (miscounted c.args.file (bodies c.args.units.now))) (flat_map (unit_by t) c.args.units.now)) c.in_ok-around.ensures
    ∙ first_by_tables c.args.file c.args.types.now c.args.units.now
