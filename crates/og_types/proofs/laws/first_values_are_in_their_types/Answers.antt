use Rattle.og_types.proofs.FirstIn.{first_is_in}
use Rattle.og_types.proofs.laws.first_values_are_in_their_types.Goals as goal

pub returns : goal.returns
returns c = first_is_in
