use Rattle.std.proofs.Common.{◌≡◌, ◌++◌}
use Rattle.std.specs.List.{flat_map}
use Rattle.og_cprint.specs.Printed.{case_bytes}
use Rattle.og_cprint.proofs.Joins.{switch_put}
use Rattle.og_cprint.proofs.program.put_statement.Goals as goal

pub returns-in_ok-put_default-in-Switch : goal.returns-in_ok-put_default-in-Switch
returns-in_ok-put_default-in-Switch c =
    let cases : c.put_cases.new.out.items ≡ c.put-in-Switch-2.new.out.items ++ flat_map case_bytes c.in-Switch.cases = cc (c.in_ok-put_cases-in-Switch.ensures) in
    switch_put c.args.statement.now c.in-Switch.value c.in-Switch.cases c.in-Switch.otherwise c.args.out.now.items c.in-Switch.is
    c.in_ok-put-in-Switch.ensures c.in_ok-put_sum-in-Switch.ensures c.in_ok-put-in-Switch-2.ensures cases c.in_ok-put_default-in-Switch.ensures
