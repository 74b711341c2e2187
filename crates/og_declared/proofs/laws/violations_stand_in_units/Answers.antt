use Rattle.og_declared.proofs.Standing.{each_in_units, first_in_units}
use Rattle.og_declared.proofs.laws.violations_stand_in_units.Goals as goal

pub returns-clause-each : goal.returns-clause-each
returns-clause-each c = each_in_units

pub returns-clause-first : goal.returns-clause-first
returns-clause-first c = first_in_units
