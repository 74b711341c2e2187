use Rattle.og_trees.proofs.ShortNames.{short_unit_name, short_parts, short_module_name}
use Rattle.og_trees.proofs.laws.names_are_short.Goals as goal

pub returns-clause-units : goal.returns-clause-units
returns-clause-units c = short_unit_name

pub returns-clause-hyphened : goal.returns-clause-hyphened
returns-clause-hyphened c name = short_parts name.parts

pub returns-clause-modules : goal.returns-clause-modules
returns-clause-modules c = short_module_name
