use Rattle.std.proofs.Common.{◌≡◌, None, rules}
use Rattle.og_csubset.specs.Loading.{first_load_rule}
use Rattle.og_cstatement.proofs.Loaded.{loaded}
use Rattle.og_cstep.proofs.Machine.load.Goals as goal

pub of-requires : goal.of-requires
of-requires c =
    let loads : first_load_rule c.args.program.now c.args.model.now ≡ None = search rules in (loaded c.args.program.now c.args.model.now loads).known

pub first_cells-requires-clause-few : goal.first_cells-requires-clause-few
first_cells-requires-clause-few c =
    let loads : first_load_rule c.args.program.now c.args.model.now ≡ None = search rules in (loaded c.args.program.now c.args.model.now loads).small
