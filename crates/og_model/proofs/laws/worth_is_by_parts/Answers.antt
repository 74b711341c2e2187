use Rattle.og_model.proofs.Depth.{eval_is, walk_is}
use Rattle.og_model.proofs.laws.worth_is_by_parts.Goals as goal

pub returns : goal.returns
returns c = record { expressions = eval_is; targets = walk_is }
