use Rattle.std.proofs.Common.{refl}
use Rattle.og_declared.proofs.laws.seen_as_in_systems.Goals as goal

pub returns-clause-system : goal.returns-clause-system
returns-clause-system c = λ constants units system name. refl

pub returns-clause-block : goal.returns-clause-block
returns-clause-block c = λ constants units system block name. refl
