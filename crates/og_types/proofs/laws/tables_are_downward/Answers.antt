use Rattle.og_types.proofs.Tables.{tables_are_downward}
use Rattle.og_types.proofs.laws.tables_are_downward.Goals as goal

pub returns : goal.returns
returns c = tables_are_downward
