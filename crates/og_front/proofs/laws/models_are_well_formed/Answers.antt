use Rattle.og_front.proofs.Formed.{model_is_formed}
use Rattle.og_front.proofs.Resolving.{model_is_basic}
use Rattle.og_front.proofs.laws.models_are_well_formed.Goals as goal

pub returns-clause-formed : goal.returns-clause-formed
returns-clause-formed c = model_is_formed

pub returns-clause-basic : goal.returns-clause-basic
returns-clause-basic c = model_is_basic
