use Rattle.og_trees.proofs.TreePlaces.{unit_places, module_places}
use Rattle.og_trees.proofs.laws.places_stand_in_files.Goals as goal

pub returns-clause-units : goal.returns-clause-units
returns-clause-units c = unit_places

pub returns-clause-modules : goal.returns-clause-modules
returns-clause-modules c = module_places
