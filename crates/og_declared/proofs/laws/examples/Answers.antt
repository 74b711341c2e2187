use Rattle.std.proofs.Common.{refl}
use Rattle.og_declared.proofs.laws.examples.Goals as goal

pub returns-clause-signals : goal.returns-clause-signals
returns-clause-signals c = (refl, refl, refl, refl)

pub returns-clause-spaces : goal.returns-clause-spaces
returns-clause-spaces c = (refl, refl, refl, refl, refl, refl)

pub returns-clause-bodies : goal.returns-clause-bodies
returns-clause-bodies c = (refl, refl, refl, refl)

pub returns-clause-underscores : goal.returns-clause-underscores
returns-clause-underscores c = (refl, refl, refl, refl)

pub returns-clause-types : goal.returns-clause-types
returns-clause-types c = (refl, refl, refl, (refl, refl))

pub returns-clause-others : goal.returns-clause-others
returns-clause-others c = (refl, refl, refl, refl, refl)
