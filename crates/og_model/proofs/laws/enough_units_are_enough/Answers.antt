use Rattle.og_model.proofs.RunLaws.{enough_units_are_enough}
use Rattle.og_model.proofs.laws.enough_units_are_enough.Goals as goal

pub returns : goal.returns
returns c = enough_units_are_enough
