use Rattle.std.proofs.Common.{◌≡◌, ◌+◌, true}
use Rattle.std.proofs.lemmas.Result.{IfOk-weaker}
use Rattle.og_types.specs.Values.{first_within, is_in}
use Rattle.og_types.proofs.FirstIn.{first_read}
use Rattle.og_types.proofs.table.TypeTable.first.Goals as goal

pub returns-clause-in_type : goal.returns-clause-in_type
returns-clause-in_type c =
    IfOk-weaker c.first_within.result
    (λ v. v ≡ first_within (c.args.id.0 + 1) c.as_slice.result.now c.args.id) (λ v. is_in c.args.self.now c.args.id v ≡ true)
    (λ v e. first_read _ _ _ c.args.id v c.self.invariant.table c.self.view_is c.as_slice.ensures c.requires.supported e) c.first_within.ensures
