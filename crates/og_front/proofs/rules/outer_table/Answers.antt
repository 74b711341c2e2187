use Rattle.og_front.specs.Rules.{key}
use Rattle.og_front.proofs.Additions.{outer_is}
use Rattle.og_front.proofs.rules.outer_table.Goals as goal

pub returns : goal.returns
returns c =
    outer_is (key c.args.system.now.block) (key c.args.system.now.process) _ _ _ _
    c.new-table.ensures c.in_ok-add_name.ensures.added c.in_ok-add_name-2.ensures.added c.in_ok-add_each.ensures
