use Rattle.og_model.proofs.RunLaws.{each_is_answered}
use Rattle.og_model.proofs.laws.each_is_answered.Goals as goal

pub returns : goal.returns
returns c = each_is_answered
