use Rattle.og_value.proofs.Again.{reads_in}
use Rattle.og_value.proofs.laws.read_values_are_in_their_types.Goals as goal

pub returns : goal.returns
returns c = λ types table names id text v. reads_in types names id table text v
