use Rattle.og_names.proofs.Places.{earlier_stays}
use Rattle.og_names.proofs.laws.earlier_numbers_stay.Goals as goal

pub returns : goal.returns
returns c = earlier_stays
