use Rattle.og_declared.proofs.Kept.{none_violated}
use Rattle.og_declared.proofs.laws.first_of_violations.Goals as goal

pub returns : goal.returns
returns c = none_violated
