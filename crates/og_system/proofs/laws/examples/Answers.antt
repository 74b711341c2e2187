use Rattle.std.proofs.Common.{refl}
use Rattle.og_system.proofs.laws.examples.Goals as goal

pub returns-clause-counts : goal.returns-clause-counts
returns-clause-counts c = (refl, refl, refl, refl, refl)

pub returns-clause-references : goal.returns-clause-references
returns-clause-references c = (refl, refl, refl, refl, refl, refl)

pub returns-clause-paths : goal.returns-clause-paths
returns-clause-paths c = (refl, refl, refl, refl, refl, refl)

pub returns-clause-homes : goal.returns-clause-homes
returns-clause-homes c = (refl, refl)

pub returns-clause-ways : goal.returns-clause-ways
returns-clause-ways c = (refl, refl, refl, refl, refl, refl, refl, refl)
