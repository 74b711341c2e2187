use Rattle.og_names.proofs.Tables.{folded_twice}
use Rattle.og_names.proofs.laws.folding_twice.Goals as goal

pub returns : goal.returns
returns c = folded_twice
