use Rattle.std.proofs.Common.{◌≡◌, subst}
use Rattle.std.specs.Prelude.{IfOk}
use Rattle.og_front.specs.Rules.{first_by}
use Rattle.og_front.proofs.Additions.{the_tables}
use Rattle.og_front.proofs.rules.first_violation.Goals as goal

pub returns : goal.returns
returns c =
    subst (λ tables. IfOk c.first_by.result (λ first. first ≡ first_by tables c.args.system.now)) (the_tables c.args.system.now c.args.tables.now c.requires.tables) c.first_by.ensures
