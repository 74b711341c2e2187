use Rattle.og_model.proofs.RunLaws.{stopped_for_good}
use Rattle.og_model.proofs.laws.stopped_for_good.Goals as goal

pub returns : goal.returns
returns c = stopped_for_good
