use Rattle.og_declared.proofs.Kept.{signals_differ, spaces_differ, spaces_are_plain, sorts_are_types}
use Rattle.og_declared.proofs.laws.without_violations.Goals as goal

pub returns-clause-signals : goal.returns-clause-signals
returns-clause-signals c = signals_differ

pub returns-clause-spaces : goal.returns-clause-spaces
returns-clause-spaces c = spaces_differ

pub returns-clause-spelling : goal.returns-clause-spelling
returns-clause-spelling c = spaces_are_plain

pub returns-clause-sorts : goal.returns-clause-sorts
returns-clause-sorts c = sorts_are_types
