use Rattle.og_model.proofs.RunLaws.{more_units_go_on}
use Rattle.og_model.proofs.laws.more_units_go_on.Goals as goal

pub returns : goal.returns
returns c = more_units_go_on
