use Rattle.og_model.proofs.Labels.{tail_in_is}
use Rattle.og_model.proofs.laws.tails_are_by_parts.Goals as goal

pub returns : goal.returns
returns c = tail_in_is
