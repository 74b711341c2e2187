use Rattle.og_system.proofs.Judged.{none_violated}
use Rattle.og_system.proofs.laws.first_of_violations.Goals as goal

pub returns : goal.returns
returns c = none_violated
